use Rattle.std.proofs.Common.{◌≡◌, ◌∙◌, ℕ, List, [], ◌∷◌, Bool, true, false, Some, None, refl, codes}
use Rattle.std.specs.Prelude.{if◌then◌else◌}
use Rattle.std.specs.Str.{bytes_eq}
use Rattle.pb_command.specs.Values.{kind_of_text}
use Rattle.pb_command.specs.Meaning.{Reading, Refused, with_kind}
use Rattle.pb_command.specs.declared.table.ValuedOption.TheVariants.{Num, Den, Pattern, Estimate, Effort}
use Rattle.pb_command.specs.Options.{Placed, Valued}
use Rattle.pb_task.specs.declared.kind.Kind.{Kind}
use Rattle.pb_command.specs.declared.refusal.CommandFault.TheVariants as fault
use Rattle.pb_command.proofs.Examples.{grid_name, tiles_name, strips_name, one_name, two_name, zero_name, tables_name}
use Rattle.pb_command.proofs.SolveReading.{solve_is}
use Rattle.pb_command.proofs.MakeReading.{make_is}
use Rattle.pb_command.proofs.laws.faults_are_found.Goals as goal

pub returns-clause-files : goal.returns-clause-files
returns-clause-files c = λ map hm. solve_is (Placed (codes "grid") ∷ Placed map ∷ []) (grid_name, (hm, tt)) tt (refl, (refl, tt)) (codes "grid") map refl refl

pub returns-clause-boards : goal.returns-clause-boards
returns-clause-boards c = λ board other hb ho. solve_is (Placed (codes "tiles") ∷ Placed board ∷ Placed other ∷ []) (tiles_name, (hb, (ho, tt))) tt (refl, (refl, (refl, tt)))
    (codes "tiles") board refl refl

pub returns-clause-domain : goal.returns-clause-domain
returns-clause-domain c = λ domain hd. solve_is (Placed (codes "strips") ∷ Placed domain ∷ []) (strips_name, (hd, tt)) tt (refl, (refl, tt)) (codes "strips") domain refl refl

-- a word that isn't the name of a kind is refused, whatever the other values are
other_kind : (word : List ℕ) (next : Kind → Reading) → bytes_eq word (codes "grid") ≡ false → bytes_eq word (codes "tiles") ≡ false
    → bytes_eq word (codes "strips") ≡ false → with_kind (kind_of_text (Some word)) next ≡ Refused fault.Kind
other_kind word next no_grid no_tiles no_strips =
    by (bytes_eq word (codes "grid")) (bytes_eq word (codes "tiles")) (bytes_eq word (codes "strips")) _ _ _ no_grid no_tiles no_strips where
      by : (a b c : Bool) (k l m : Kind) → a ≡ false → b ≡ false → c ≡ false
          → with_kind (if a then Some k else (if b then Some l else (if c then Some m else None))) next ≡ Refused fault.Kind
      by false false false k l m e f g = refl
      by false false true k l m e f g = cc
      by false true c k l m e f g = cc
      by true b c k l m e f g = cc

pub returns-clause-kind : goal.returns-clause-kind
returns-clause-kind c = λ kind map hk hm no_grid no_tiles no_strips.
    solve_is (Placed kind ∷ Placed map ∷ []) (hk, (hm, tt)) tt (refl, (refl, tt)) kind map refl refl ∙ other_kind kind _ no_grid no_tiles no_strips

pub returns-clause-weight : goal.returns-clause-weight
returns-clause-weight c = λ map scenario hm hs. solve_is (Placed (codes "grid") ∷ Placed map ∷ Placed scenario ∷ Valued Num (codes "1") ∷ Valued Den (codes "2") ∷ [])
    (grid_name, (hm, (hs, ((refl, one_name, refl), ((refl, two_name, refl), tt))))) (refl, (refl, tt)) (refl, (refl, (refl, tt))) (codes "grid") map refl refl

pub returns-clause-estimate : goal.returns-clause-estimate
returns-clause-estimate c = λ domain problem hd hp. solve_is
    (Placed (codes "strips") ∷ Placed domain ∷ Placed problem ∷ Valued Estimate (codes "tables") ∷ Valued Effort (codes "1") ∷ Valued Pattern (codes "1") ∷ [])
    (strips_name, (hd, (hp, ((refl, tables_name, refl), ((refl, one_name, refl), ((refl, one_name, refl), tt)))))) (refl, (refl, (refl, tt))) (refl, (refl, (refl, tt)))
    (codes "strips") domain refl refl

pub returns-clause-size : goal.returns-clause-size
returns-clause-size c = make_is (Placed (codes "grid") ∷ Placed (codes "0") ∷ Placed (codes "0") ∷ []) (grid_name, (zero_name, (zero_name, tt))) tt _ _ _ refl refl refl
