-- Steps by atoms and by numbers.
use Rattle.std.proofs.Common.{◌≡◌, ℕ, zero, suc, Bool, true, false, cond, not, ◌&&◌, ◌||◌, nat_eq, List, [], ◌∷◌, map, Option, Some, None, is_some, option_map, slice_get, refl, sym, ap, ◌∙◌}
use Rattle.std.proofs.Math.Bool.{and-true}
use Rattle.std.proofs.lemmas.Bool.{and_parts, or_left, or_parts, or_right, eqb-true, eq-eqb}
use Rattle.std.proofs.lemmas.List.Folds.{list_any-append, list_all-append}
use Rattle.std.proofs.lemmas.Slice.Eq.{bytes_eq-Decides}
use Rattle.std.specs.List.{list_any, list_all, flat_map}
use Rattle.std.specs.Str.{bytes_eq}
use Rattle.pb_lifted.specs.declared.lifted.Lifted.{Lifted}
use Rattle.pb_lifted.specs.declared.lifted.LiftedAtom.{LiftedAtom}
use Rattle.pb_lifted.specs.declared.lifted.Schema.{Schema}
use Rattle.pb_ground.specs.declared.atoms.GroundAtom.{GroundAtom}
use Rattle.pb_ground.specs.Actions.{numbers_of}
use Rattle.pb_ground.specs.Atoms.{is_fluent, same_atom, grounded, number_in, atom_of, predicate_of, changed_by}
use Rattle.pb_ground.specs.Keeping.{IsKeeping, HoldsKept, KeptStepsCorrespond}
use Rattle.pb_ground.specs.Statics.{is_initial, keep_all}
use Rattle.pb_ground.proofs.Once.{number_list, repeated, any_once, all_once}
use Rattle.pb_ground.specs.Steps.{Facts, Bits, all_grounded, is_in, facts_after, Packs, KeepsStatics, AreNumbered, KeptAreNumbered, StepsCorrespond}

-- atoms that are alike are the same
pub one_atom : (f g : GroundAtom) → same_atom f g ≡ true → f ≡ g
one_atom f g e =
    let both = and_parts (nat_eq f.predicate g.predicate) (bytes_eq f.objects g.objects) e in
    ap (λ p. atom_of p f.objects) (eqb-true f.predicate g.predicate both.0) ∙ ap (λ os. atom_of g.predicate os) ((bytes_eq-Decides f.objects g.objects).0 both.1)

pub atom_itself : (f g : GroundAtom) → f ≡ g → same_atom f g ≡ true
atom_itself f g e =
    ap (λ b. b && bytes_eq f.objects g.objects) (eq-eqb f.predicate g.predicate (ap (λ h. h.predicate) e))
    ∙ (bytes_eq-Decides f.objects g.objects).1 (ap (λ h. h.objects) e)

apart : {A : Type 0} (n : Option ℕ) → Some 0 ≡ option_map suc n → A
apart None e = cc
apart (Some n) e = cc

under : (m n : Option ℕ) (k : ℕ) → option_map suc m ≡ Some k → option_map suc n ≡ Some k → (j : ℕ) × (m ≡ Some j) × (n ≡ Some j)
under None n k e f = cc
under (Some a) None k e f = cc
under (Some a) (Some b) k e f = let same : b ≡ a = cc in (a, refl, ap (λ x. Some x) same)

-- two atoms of one number are the same
pub one_number : (f g : GroundAtom) (atoms : List GroundAtom) (n : ℕ) → number_in f atoms ≡ Some n → number_in g atoms ≡ Some n → f ≡ g
one_number f g [] n e h = cc
one_number f g (first ∷ atoms) n e h = at (one_number f g atoms) (same_atom f first) (same_atom g first) refl refl e h
  where
    at : ((k : ℕ) → number_in f atoms ≡ Some k → number_in g atoms ≡ Some k → f ≡ g) → (a b : Bool) → same_atom f first ≡ a → same_atom g first ≡ b
        → cond a (Some 0) (option_map suc (number_in f atoms)) ≡ Some n → cond b (Some 0) (option_map suc (number_in g atoms)) ≡ Some n → f ≡ g
    at later true true p q u v = one_atom f first p ∙ sym (one_atom g first q)
    at later true false p q u v = apart (number_in g atoms) (u ∙ sym v)
    at later false true p q u v = apart (number_in f atoms) (v ∙ sym u)
    at later false false p q u v = let j = under (number_in f atoms) (number_in g atoms) n u v in later j.0 j.1 j.2

-- an atom that has a number is like another where the other has it too
alike : (f g : GroundAtom) (atoms : List GroundAtom) (n : ℕ) → number_in f atoms ≡ Some n → list_any (nat_eq n) (number_list (number_in g atoms)) ≡ same_atom f g
alike f g atoms n e = at (same_atom f g) (number_in g atoms) refl refl
  where
    at : (s : Bool) (m : Option ℕ) → same_atom f g ≡ s → number_in g atoms ≡ m → list_any (nat_eq n) (number_list m) ≡ s
    at true None p q = let here : Some n ≡ None = sym e ∙ (ap (λ h. number_in h atoms) (one_atom f g p) ∙ q) in cc
    at true (Some m) p q =
        let here : Some n ≡ Some m = sym e ∙ (ap (λ h. number_in h atoms) (one_atom f g p) ∙ q) in
        let same : n ≡ m = cc in ap (λ b. b || false) (eq-eqb n m same)
    at false None p q = refl
    at false (Some m) p q = no (nat_eq n m) refl
      where
        no : (b : Bool) → nat_eq n m ≡ b → (nat_eq n m || false) ≡ false
        no false r = ap (λ b. b || false) r
        no true r =
            let same : f ≡ g = one_number f g atoms n e (q ∙ ap (λ k. Some k) (sym (eqb-true n m r))) in
            let bad : true ≡ false = sym (atom_itself f g same) ∙ p in cc

all_alike : (f : GroundAtom) (atoms : List GroundAtom) (n : ℕ) (given : List ℕ) (list : List LiftedAtom) → number_in f atoms ≡ Some n
    → list_any (nat_eq n) (repeated atoms given list) ≡ is_in f (all_grounded given list)
all_alike f atoms n given [] e = refl
all_alike f atoms n given (a ∷ list) e =
    list_any-append (nat_eq n) (number_list (number_in (grounded given a) atoms)) (repeated atoms given list)
    ∙ (ap (λ b. b || list_any (nat_eq n) (repeated atoms given list)) (alike f (grounded given a) atoms n e)
    ∙ ap (λ b. same_atom f (grounded given a) || b) (all_alike f atoms n given list e))

pub numbers_alike : (f : GroundAtom) (atoms : List GroundAtom) (n : ℕ) (given : List ℕ) (list : List LiftedAtom) → number_in f atoms ≡ Some n
    → list_any (nat_eq n) (numbers_of atoms given list) ≡ is_in f (all_grounded given list)
numbers_alike f atoms n given list e = any_once (nat_eq n) atoms given list ∙ all_alike f atoms n given list e

-- one precondition
one_holds : (lifted : Lifted) (kept : Facts) (atoms : List GroundAtom) (state : Facts) (bits : Bits) (given : List ℕ) (a : LiftedAtom) → IsKeeping lifted kept → Packs atoms state bits
    → KeepsStatics lifted state → HoldsKept kept state
    → (is_fluent lifted a.predicate ≡ true → kept (grounded given a) ≡ true → is_some (number_in (grounded given a) atoms) ≡ true)
    → state (grounded given a) ≡ (kept (grounded given a) && list_all bits (number_list (number_in (grounded given a) atoms)))
one_holds lifted kept atoms state bits given a keeping packs keeps holds numbered = at (kept fact) (number_in fact atoms) (is_fluent lifted a.predicate) refl refl refl
  where
    fact : GroundAtom
    fact = grounded given a

    not_held : (s k : Bool) → (s ≡ true → k ≡ true) → k ≡ false → s ≡ false
    not_held true k h e = sym (h refl) ∙ e
    not_held false k h e = refl

    at : (k : Bool) (m : Option ℕ) (f : Bool) → kept fact ≡ k → number_in fact atoms ≡ m → is_fluent lifted a.predicate ≡ f → state fact ≡ (k && list_all bits (number_list m))
    at false m f p q r = not_held (state fact) (kept fact) (holds fact) p
    at true (Some m) f p q r = sym (packs fact m q) ∙ sym (and-true (bits m))
    at true None true p q r = let bad : false ≡ true = ap is_some (sym q) ∙ numbered r p in cc
    at true None false p q r = keeps fact r ∙ (sym (keeping.statics fact r) ∙ p)

regroup : (t n s b : Bool) → ((t && n) && (s && b)) ≡ ((t && s) && (n && b))
regroup true true s b = refl
regroup true false true b = refl
regroup true false false b = refl
regroup false n s b = refl

repeated_hold : (lifted : Lifted) (kept : Facts) (atoms : List GroundAtom) (state : Facts) (bits : Bits) (given : List ℕ) (list : List LiftedAtom) → IsKeeping lifted kept → Packs atoms state bits
    → KeepsStatics lifted state → HoldsKept kept state → KeptAreNumbered lifted kept atoms given list
    → list_all state (all_grounded given list) ≡ (list_all kept (all_grounded given list) && list_all bits (repeated atoms given list))
repeated_hold lifted kept atoms state bits given [] keeping packs keeps holds numbered = refl
repeated_hold lifted kept atoms state bits given (a ∷ list) keeping packs keeps holds numbered =
    let test = kept (grounded given a) in
    let here = list_all bits (number_list (number_in (grounded given a) atoms)) in
    let rest = list_all kept (all_grounded given list) in
    ap (λ b. b && list_all state (all_grounded given list)) (one_holds lifted kept atoms state bits given a keeping packs keeps holds numbered.0)
    ∙ (ap (λ b. (test && here) && b) (repeated_hold lifted kept atoms state bits given list keeping packs keeps holds numbered.1)
    ∙ (regroup test here rest (list_all bits (repeated atoms given list))
    ∙ ap (λ b. (test && rest) && b) (sym (list_all-append bits (number_list (number_in (grounded given a) atoms)) (repeated atoms given list)))))

all_hold : (lifted : Lifted) (kept : Facts) (atoms : List GroundAtom) (state : Facts) (bits : Bits) (given : List ℕ) (list : List LiftedAtom) → IsKeeping lifted kept → Packs atoms state bits
    → KeepsStatics lifted state → HoldsKept kept state → KeptAreNumbered lifted kept atoms given list
    → list_all state (all_grounded given list) ≡ (list_all kept (all_grounded given list) && list_all bits (numbers_of atoms given list))
all_hold lifted kept atoms state bits given list keeping packs keeps holds numbered =
    repeated_hold lifted kept atoms state bits given list keeping packs keeps holds numbered
    ∙ ap (λ b. list_all kept (all_grounded given list) && b) (sym (all_once bits atoms given list))

pub kept_correspond : KeptStepsCorrespond
kept_correspond lifted kept atoms state bits i schema given keeping packs keeps holds numbered = record {
  applicable = all_hold lifted kept atoms state bits given schema.pre keeping packs keeps holds numbered;
  result = λ fact n e.
      ap (λ b. b || (bits n && not (list_any (nat_eq n) (numbers_of atoms given schema.deletes)))) (numbers_alike fact atoms n given schema.adds e)
      ∙ (ap (λ b. is_in fact (all_grounded given schema.adds) || (b && not (list_any (nat_eq n) (numbers_of atoms given schema.deletes)))) (packs fact n e)
      ∙ ap (λ b. is_in fact (all_grounded given schema.adds) || (state fact && not b)) (numbers_alike fact atoms n given schema.deletes e));
}

-- ---- static atoms

-- an atom of a predicate that is not among theirs is none of these
not_among : (f : GroundAtom) (given : List ℕ) (list : List LiftedAtom) → list_any (nat_eq f.predicate) (map predicate_of list) ≡ false → is_in f (all_grounded given list) ≡ false
not_among f given [] e = refl
not_among f given (a ∷ list) e =
    let both = or_parts (nat_eq f.predicate a.predicate) (list_any (nat_eq f.predicate) (map predicate_of list)) e in
    ap (λ b. (b && bytes_eq f.objects (grounded given a).objects) || is_in f (all_grounded given list)) both.0 ∙ not_among f given list both.1

not_changed : (n i : ℕ) (schema : Schema) (actions : List Schema) → slice_get actions i ≡ Some schema → list_any (nat_eq n) (flat_map changed_by actions) ≡ false
    → list_any (nat_eq n) (changed_by schema) ≡ false
not_changed n i schema [] d e = cc
not_changed n zero schema (first ∷ actions) d e =
    let same : first ≡ schema = cc in
    let both = or_parts (list_any (nat_eq n) (changed_by first)) (list_any (nat_eq n) (flat_map changed_by actions)) (sym (list_any-append (nat_eq n) (changed_by first) (flat_map changed_by actions)) ∙ e) in
    ap (λ s. list_any (nat_eq n) (changed_by s)) (sym same) ∙ both.0
not_changed n (suc i) schema (first ∷ actions) d e =
    let both = or_parts (list_any (nat_eq n) (changed_by first)) (list_any (nat_eq n) (flat_map changed_by actions)) (sym (list_any-append (nat_eq n) (changed_by first) (flat_map changed_by actions)) ∙ e) in
    not_changed n i schema actions d both.1

stays : (b : Bool) → b ≡ (false || (b && not false))
stays true = refl
stays false = refl

pub kept : (lifted : Lifted) (state : Facts) (i : ℕ) (schema : Schema) (given : List ℕ) → slice_get lifted.actions i ≡ Some schema → KeepsStatics lifted state
    → KeepsStatics lifted (facts_after state (all_grounded given schema.deletes) (all_grounded given schema.adds))
kept lifted state i schema given declared keeps fact e =
    let none = not_changed fact.predicate i schema lifted.actions declared e in
    let both = or_parts (list_any (nat_eq fact.predicate) (map predicate_of schema.adds)) (list_any (nat_eq fact.predicate) (map predicate_of schema.deletes))
    (sym (list_any-append (nat_eq fact.predicate) (map predicate_of schema.adds) (map predicate_of schema.deletes)) ∙ none) in
    ap (λ b. b || (state fact && not (is_in fact (all_grounded given schema.deletes)))) (not_among fact given schema.adds both.0)
    ∙ (ap (λ b. false || (state fact && not b)) (not_among fact given schema.deletes both.1)
    ∙ (sym (stays (state fact)) ∙ keeps fact e))

-- what an action adds is of a fluent predicate, or held at first
added_is_kept : (lifted : Lifted) (i : ℕ) (schema : Schema) (given : List ℕ) → slice_get lifted.actions i ≡ Some schema → (fact : GroundAtom)
    → is_in fact (all_grounded given schema.adds) ≡ true → (fluent : Bool) → is_fluent lifted fact.predicate ≡ fluent → keep_all lifted fact ≡ true
added_is_kept lifted i schema given known fact added true e = or_left (is_fluent lifted fact.predicate) (is_initial lifted fact) e
added_is_kept lifted i schema given known fact added false e =
    let stays : facts_after (is_initial lifted) (all_grounded given schema.deletes) (all_grounded given schema.adds) fact ≡ is_initial lifted fact =
    kept lifted (is_initial lifted) i schema given known (λ f h. refl) fact e in
    or_right (is_fluent lifted fact.predicate) (is_initial lifted fact)
    (sym stays ∙ or_left (is_in fact (all_grounded given schema.adds)) (is_initial lifted fact && not (is_in fact (all_grounded given schema.deletes))) added)

pub all_is_keeping : (lifted : Lifted) → IsKeeping lifted (keep_all lifted)
all_is_keeping lifted = record {
  closed = record {
    starts = λ fact e. or_right (is_fluent lifted fact.predicate) (is_initial lifted fact) e;
    adds = λ i schema given known fits pre fact added. added_is_kept lifted i schema given known fact added (is_fluent lifted fact.predicate) refl;
  };
  statics = λ fact e. ap (λ b. b || is_initial lifted fact) e;
}

-- ---- steps if all atoms are kept

numbered_all : (lifted : Lifted) (atoms : List GroundAtom) (given : List ℕ) (list : List LiftedAtom) → AreNumbered lifted atoms given list → KeptAreNumbered lifted (keep_all lifted) atoms given list
numbered_all lifted atoms given [] numbered = tt
numbered_all lifted atoms given (a ∷ list) numbered = (λ fluent all. numbered.0 fluent, numbered_all lifted atoms given list numbered.1)

holds_all : (lifted : Lifted) (state : Facts) → KeepsStatics lifted state → HoldsKept (keep_all lifted) state
holds_all lifted state keeps fact e = at (is_fluent lifted fact.predicate) refl
  where
    at : (fluent : Bool) → is_fluent lifted fact.predicate ≡ fluent → keep_all lifted fact ≡ true
    at true p = or_left (is_fluent lifted fact.predicate) (is_initial lifted fact) p
    at false p = or_right (is_fluent lifted fact.predicate) (is_initial lifted fact) (sym (keeps fact p) ∙ e)

pub correspond : StepsCorrespond
correspond lifted atoms state bits i schema given packs keeps numbered =
    kept_correspond lifted (keep_all lifted) atoms state bits i schema given (all_is_keeping lifted) packs keeps (holds_all lifted state keeps)
    (numbered_all lifted atoms given schema.pre numbered)
