use Rattle.std.proofs.Common.{[], ◌∷◌, refl, codes}
use Rattle.pb_command.specs.declared.table.ValuedOption.TheVariants.{Engine, Den, Pattern, Estimate, Certificate, Journal, Falling}
use Rattle.pb_command.specs.Options.{Placed, Valued}
use Rattle.pb_command.proofs.Examples.{grid_name, tiles_name, one_name, two_name, letter_name, owners_name, tables_name}
use Rattle.pb_command.proofs.SolveReading.{solve_is}
use Rattle.pb_command.proofs.laws.tests_come_in_order.Goals as goal

pub returns-clause-files : goal.returns-clause-files
returns-clause-files c = λ map hm. solve_is (Placed (codes "grid") ∷ Placed map ∷ Valued Den (codes "2") ∷ []) (grid_name, (hm, ((refl, two_name, refl), tt))) (refl, tt) (refl, (refl, tt))
    (codes "grid") map refl refl

pub returns-clause-weight : goal.returns-clause-weight
returns-clause-weight c = λ board hb. solve_is (Placed (codes "tiles") ∷ Placed board ∷ Valued Den (codes "2") ∷ Valued Certificate (codes "c") ∷ Valued Journal (codes "c") ∷ [])
    (tiles_name, (hb, ((refl, two_name, refl), ((refl, letter_name, refl), ((refl, letter_name, refl), tt))))) (refl, (refl, (refl, tt))) (refl, (refl, tt)) (codes "tiles") board refl refl

pub returns-clause-names : goal.returns-clause-names
returns-clause-names c = λ board hb. solve_is (Placed (codes "tiles") ∷ Placed board ∷ Valued Engine (codes "hda") ∷ Valued Certificate (codes "c") ∷ Valued Journal (codes "c") ∷ [])
    (tiles_name, (hb, ((refl, owners_name, refl), ((refl, letter_name, refl), ((refl, letter_name, refl), tt))))) (refl, (refl, (refl, tt))) (refl, (refl, tt)) (codes "tiles") board refl refl

pub returns-clause-engine : goal.returns-clause-engine
returns-clause-engine c = λ board hb. solve_is (Placed (codes "tiles") ∷ Placed board ∷ Valued Engine (codes "hda") ∷ Valued Falling (codes "2") ∷ Valued Journal (codes "c") ∷ [])
    (tiles_name, (hb, ((refl, owners_name, refl), ((refl, two_name, refl), ((refl, letter_name, refl), tt))))) (refl, (refl, (refl, tt))) (refl, (refl, tt)) (codes "tiles") board refl refl

pub returns-clause-falling : goal.returns-clause-falling
returns-clause-falling c = λ board hb. solve_is
    (Placed (codes "tiles") ∷ Placed board ∷ Valued Estimate (codes "tables") ∷ Valued Pattern (codes "1") ∷ Valued Falling (codes "2") ∷ Valued Journal (codes "c") ∷ [])
    (tiles_name, (hb, ((refl, tables_name, refl), ((refl, one_name, refl), ((refl, two_name, refl), ((refl, letter_name, refl), tt)))))) (refl, (refl, (refl, (refl, tt)))) (refl, (refl, tt))
    (codes "tiles") board refl refl
