-- The ground atoms rise, and what a search by halving finds among atoms that rise.
use Rattle.std.proofs.Common.{◌≡◌, ◌+◌, ◌<◌, ◌≤◌, ℕ, zero, suc, Bool, true, false, cond, if◌then◌else◌, List, [], ◌∷◌, ◌++◌, map, length, get_or, Option, Some, None, option_map, inl, inr, refl, sym, ap, subst, ◌∙◌, arith}
use Rattle.std.proofs.lemmas.Bool.{cases_lt}
use Rattle.std.proofs.lemmas.Cmp.{nat_list_cmp_total}
use Rattle.std.proofs.lemmas.List.{map-append}
use Rattle.std.proofs.lemmas.Map.Lookups.{exact_bytes}
use Rattle.std.proofs.lemmas.Slice.Eq.{bytes_eq-Decides}
use Rattle.std.specs.declared.cmp.Ordering.{Ordering}
use Rattle.std.specs.declared.cmp.Ordering.TheVariants.{Less, Equal, Greater}
use Rattle.std.specs.Cmp.{nat_cmp_is}
use Rattle.std.specs.Cmp.Lexicographic.{slice_cmp}
use Rattle.std.specs.List.{AllByRecursion}
use Rattle.std.specs.List.Sorted.{IsStrictlySortedBy}
use Rattle.std.specs.Ordering.{nat_cmp, ordering_reverse}
use Rattle.std.specs.Str.{bytes_eq}
use Rattle.pb_lifted.specs.declared.lifted.Lifted.{Lifted}
use Rattle.pb_ground.specs.declared.atoms.GroundAtom.{GroundAtom}
use Rattle.pb_ground.specs.Atoms.{is_fluent, atom_of, atoms_of, atoms_from, ground_atoms, same_atom, number_in}
use Rattle.pb_ground.specs.Instances.{candidates, instances}
use Rattle.pb_ground.specs.Order.{AreRising, row_in}
use Rattle.pb_ground.specs.Pruning.{row_of}
use Rattle.pb_ground.proofs.Agreeing.{candidates_ascend}
use Rattle.pb_ground.proofs.Sorted.{Ascends, Above, rows_cmp, choices_ascend, above_append, ascends_append, longer_ascends, lower_all, never_both}

-- ---- the ground atoms rise

-- atoms of one predicate as rows
rows_are : (predicate : ℕ) (rows : List (List ℕ)) → map row_of (map (λ objects. atom_of predicate objects) rows) ≡ map (λ row. predicate ∷ row) rows
rows_are predicate [] = refl
rows_are predicate (row ∷ rows) = ap (λ all. (predicate ∷ row) ∷ all) (rows_are predicate rows)

instances_ascend : (lifted : Lifted) (kinds : List ℕ) → Ascends (instances lifted kinds)
instances_ascend lifted kinds = choices_ascend (candidates lifted kinds) (candidates_ascend lifted kinds)

these_ascend : (lifted : Lifted) (predicate : ℕ) (kinds : List ℕ) → Ascends (map row_of (atoms_of lifted predicate kinds))
unfolding IsStrictlySortedBy
these_ascend lifted predicate kinds = at (is_fluent lifted predicate) where
  at : (fluent : Bool) → Ascends (map row_of (cond fluent (map (λ objects. atom_of predicate objects) (instances lifted kinds)) []))
  at true = subst Ascends (sym (rows_are predicate (instances lifted kinds))) (longer_ascends predicate (instances lifted kinds) (instances_ascend lifted kinds))
  at false = tt

-- a row of one predicate is below the atoms of a later one
below_these : (lifted : Lifted) (predicate later : ℕ) (row kinds : List ℕ) → predicate < later → Above (predicate ∷ row) (map row_of (atoms_of lifted later kinds))
below_these lifted predicate later row kinds less = at (is_fluent lifted later) where
  at : (fluent : Bool) → Above (predicate ∷ row) (map row_of (cond fluent (map (λ objects. atom_of later objects) (instances lifted kinds)) []))
  at true = subst (Above (predicate ∷ row)) (sym (rows_are later (instances lifted kinds))) (lower_all predicate later row (instances lifted kinds) (sym (nat_cmp_is predicate later Less less)))
  at false = tt

below_later : (lifted : Lifted) (predicate later : ℕ) (row : List ℕ) (predicates : List (List ℕ)) → predicate < later
    → Above (predicate ∷ row) (map row_of (atoms_from lifted later predicates))
below_later lifted predicate later row [] less = tt
below_later lifted predicate later row (kinds ∷ predicates) less =
    subst (Above (predicate ∷ row)) (sym (map-append row_of (atoms_of lifted later kinds) (atoms_from lifted (suc later) predicates)))
    (above_append (predicate ∷ row) (map row_of (atoms_of lifted later kinds)) (map row_of (atoms_from lifted (suc later) predicates))
    (below_these lifted predicate later row kinds less) (below_later lifted predicate (suc later) row predicates (omega (arith, less))))

all_below_later : (lifted : Lifted) (predicate : ℕ) (kinds : List ℕ) (predicates : List (List ℕ))
    → AllByRecursion (λ row. Above row (map row_of (atoms_from lifted (suc predicate) predicates))) (map row_of (atoms_of lifted predicate kinds))
all_below_later lifted predicate kinds predicates = at (is_fluent lifted predicate) where
  each : (rows : List (List ℕ)) → AllByRecursion (λ row. Above row (map row_of (atoms_from lifted (suc predicate) predicates))) (map (λ row. predicate ∷ row) rows)
  each [] = tt
  each (row ∷ rows) = (below_later lifted predicate (suc predicate) row predicates (omega arith), each rows)

  at : (fluent : Bool) → AllByRecursion (λ row. Above row (map row_of (atoms_from lifted (suc predicate) predicates)))
      (map row_of (cond fluent (map (λ objects. atom_of predicate objects) (instances lifted kinds)) []))
  at true =
      subst (AllByRecursion (λ row. Above row (map row_of (atoms_from lifted (suc predicate) predicates)))) (sym (rows_are predicate (instances lifted kinds)))
      (each (instances lifted kinds))
  at false = tt

those_rise : (lifted : Lifted) (predicate : ℕ) (predicates : List (List ℕ)) → Ascends (map row_of (atoms_from lifted predicate predicates))
unfolding IsStrictlySortedBy
those_rise lifted predicate [] = tt
those_rise lifted predicate (kinds ∷ predicates) =
    subst Ascends (sym (map-append row_of (atoms_of lifted predicate kinds) (atoms_from lifted (suc predicate) predicates)))
    (ascends_append (map row_of (atoms_of lifted predicate kinds)) (map row_of (atoms_from lifted (suc predicate) predicates))
    (these_ascend lifted predicate kinds) (those_rise lifted (suc predicate) predicates) (all_below_later lifted predicate kinds predicates))

pub atoms_rise : (lifted : Lifted) → AreRising (ground_atoms lifted)
atoms_rise lifted = those_rise lifted 0 lifted.predicates

-- ---- rows by their numbers

pub row_in_is : (atoms : List GroundAtom) (k : ℕ) (none : GroundAtom) → k < length atoms → row_in atoms k ≡ row_of (get_or atoms k none)
row_in_is [] k none inside = absurd (omega (arith, inside))
row_in_is (atom ∷ atoms) zero none inside = refl
row_in_is (atom ∷ atoms) (suc k) none inside = row_in_is atoms k none (omega (arith, inside))

above_at : (row : List ℕ) (atoms : List GroundAtom) (k : ℕ) → Above row (map row_of atoms) → k < length atoms → rows_cmp row (row_in atoms k) ≡ Less
above_at row [] k above inside = absurd (omega (arith, inside))
above_at row (atom ∷ atoms) zero above inside = above.0
above_at row (atom ∷ atoms) (suc k) above inside = above_at row atoms k above.1 (omega (arith, inside))

rises_at : (atoms : List GroundAtom) (i j : ℕ) → AreRising atoms → i < j → j < length atoms → rows_cmp (row_in atoms i) (row_in atoms j) ≡ Less
unfolding IsStrictlySortedBy
rises_at [] i j rise less inside = absurd (omega (arith, inside))
rises_at (atom ∷ atoms) i zero rise less inside = absurd (omega (arith, less))
rises_at (atom ∷ atoms) zero (suc j) rise less inside = above_at (row_of atom) atoms j rise.0 (omega (arith, inside))
rises_at (atom ∷ atoms) (suc i) (suc j) rise less inside = rises_at atoms i j rise.1 (omega (arith, less)) (omega (arith, inside))

-- ---- a search by halving

turned : (a b : List ℕ) (o : Ordering) → rows_cmp a b ≡ o → rows_cmp b a ≡ ordering_reverse o
turned a b o e = nat_list_cmp_total.antisymm b a ∙ ap ordering_reverse e

-- atoms before one that is too low are too low
pub low_before : (atoms : List GroundAtom) (key : List ℕ) (middle k : ℕ) → AreRising atoms → middle < length atoms → rows_cmp (row_in atoms middle) key ≡ Less → k < middle + 1
    → rows_cmp (row_in atoms k) key ≡ Less
low_before atoms key middle k rise inside low less = elim (cases_lt k middle) [
  | inl before ↦ nat_list_cmp_total.trans (row_in atoms k) (row_in atoms middle) key (rises_at atoms k middle rise before inside) low
  | inr behind ↦
      let here : middle ≡ k = omega (arith, behind, less) in
      subst (λ n. rows_cmp (row_in atoms n) key ≡ Less) here low
]

-- atoms behind one that is too high are too high
pub high_behind : (atoms : List GroundAtom) (key : List ℕ) (middle k : ℕ) → AreRising atoms → rows_cmp (row_in atoms middle) key ≡ Greater → middle ≤ k → k < length atoms
    → rows_cmp (row_in atoms k) key ≡ Greater
high_behind atoms key middle k rise high more inside = elim (cases_lt middle k) [
  | inl behind ↦
      turned key (row_in atoms k) Less
      (nat_list_cmp_total.trans key (row_in atoms middle) (row_in atoms k) (turned (row_in atoms middle) key Greater high) (rises_at atoms middle k rise behind inside))
  | inr before ↦
      let here : middle ≡ k = omega (arith, before, more) in
      subst (λ n. rows_cmp (row_in atoms n) key ≡ Greater) here high
]

low_differs : (row key : List ℕ) → rows_cmp row key ≡ Less → row ≡ key → ⊥
low_differs row key low same =
    let itself : rows_cmp row row ≡ Less = subst (λ k. rows_cmp row k ≡ Less) (sym same) low in
    never_both row row itself itself

high_differs : (row key : List ℕ) → rows_cmp row key ≡ Greater → row ≡ key → ⊥
high_differs row key high same = low_differs key row (turned row key Greater high) (sym same)

first_differs : (atom first : GroundAtom) → (row_of first ≡ row_of atom → ⊥) → same_atom atom first ≡ false
first_differs atom first differs = at (same_atom atom first) refl where
  at : (same : Bool) → same_atom atom first ≡ same → same ≡ false
  at false e = refl
  at true e = absurd (differs (sym ((bytes_eq-Decides (row_of atom) (row_of first)).0 e)))

no_number : (atom : GroundAtom) (atoms : List GroundAtom) → ((k : ℕ) → k < length atoms → row_in atoms k ≡ row_of atom → ⊥) → number_in atom atoms ≡ None
no_number atom [] differs = refl
no_number atom (first ∷ atoms) differs =
    ap (λ same. if same then Some 0 else option_map suc (number_in atom atoms)) (first_differs atom first (differs 0 (omega arith)))
    ∙ ap (λ number. option_map suc number) (no_number atom atoms (λ k inside. differs (suc k) (omega (arith, inside))))

number_at : (atom : GroundAtom) (atoms : List GroundAtom) (i : ℕ) → i < length atoms → ((k : ℕ) → k < i → row_in atoms k ≡ row_of atom → ⊥)
    → row_in atoms i ≡ row_of atom → number_in atom atoms ≡ Some i
number_at atom [] i inside differs is = absurd (omega (arith, inside))
number_at atom (first ∷ atoms) zero inside differs is =
    ap (λ same. if same then Some 0 else option_map suc (number_in atom atoms)) ((bytes_eq-Decides (row_of atom) (row_of first)).1 (sym is))
number_at atom (first ∷ atoms) (suc i) inside differs is =
    ap (λ same. if same then Some 0 else option_map suc (number_in atom atoms)) (first_differs atom first (differs 0 (omega arith)))
    ∙ ap (λ number. option_map suc number) (number_at atom atoms i (omega (arith, inside)) (λ k less. differs (suc k) (omega (arith, less))) is)

-- the atom is found at a place
pub found : (atom : GroundAtom) (atoms : List GroundAtom) (i : ℕ) → AreRising atoms → i < length atoms → rows_cmp (row_in atoms i) (row_of atom) ≡ Equal
    → number_in atom atoms ≡ Some i
found atom atoms i rise inside equal =
    let is : row_in atoms i ≡ row_of atom = exact_bytes (row_in atoms i) (row_of atom) equal in
    number_at atom atoms i inside
    (λ k less. low_differs (row_in atoms k) (row_of atom) (subst (λ row. rows_cmp (row_in atoms k) row ≡ Less) is (rises_at atoms k i rise less inside))) is

-- all atoms are too low or too high
pub not_found : (atom : GroundAtom) (atoms : List GroundAtom) (low : ℕ) → ((k : ℕ) → k < low → rows_cmp (row_in atoms k) (row_of atom) ≡ Less)
    → ((k : ℕ) → low ≤ k → k < length atoms → rows_cmp (row_in atoms k) (row_of atom) ≡ Greater) → number_in atom atoms ≡ None
not_found atom atoms low before behind = no_number atom atoms (λ k inside. elim (cases_lt k low) [
  | inl less ↦ low_differs (row_in atoms k) (row_of atom) (before k less)
  | inr more ↦ high_differs (row_in atoms k) (row_of atom) (behind k more inside)
])
