-- A problem of at most 14 blocks has few ground atoms and few ground actions.
use Rattle.std.proofs.Common.{◌≡◌, ℕ, suc, ◌+◌, ◌*◌, ◌≤◌, Bool, true, false, cond, nat_lt, if◌then◌else◌, Option, None, List, [], ◌∷◌, length, map, ap, arith, ◌∙◌, length-append}
use Rattle.std.proofs.lemmas.Bool.{le-ltb}
use Rattle.std.proofs.lemmas.List.{length-map}
use Rattle.std.proofs.lemmas.List.Sums.{length-filter, count_by-le-length}
use Rattle.std.proofs.lemmas.Nat.{mul-le}
use Rattle.pb_packed.specs.Sizes.{most_atoms}
use Rattle.pb_pddl.specs.declared.tree.Problem.{Problem}
use Rattle.pb_lifted.specs.declared.lifted.Lifted.{Lifted}
use Rattle.pb_lifted.specs.declared.lifted.Schema.{Schema}
use Rattle.pb_lifted.specs.Lifted.{lifted_of}
use Rattle.pb_lifted.specs.Tree.{comes_to}
use Rattle.pb_lifted.proofs.Callers.{well_typed_is_accepted}
use Rattle.pb_ground.specs.declared.atoms.GroundAtom.{GroundAtom}
use Rattle.pb_ground.specs.Atoms.{atom_of, atoms_from, atoms_of, ground_atoms, is_fluent}
use Rattle.pb_ground.specs.Actions.{actions_from, actions_of, action_of, ground_actions, rows_of}
use Rattle.pb_ground.specs.Count.{product_of}
use Rattle.pb_ground.specs.Instances.{candidates, fitting, fitting_from, instances}
use Rattle.pb_ground.specs.Statics.{statics_hold}
use Rattle.pb_ground.proofs.Callers.{product_is}
use Rattle.pb_strips.specs.Refusals.{first_fault, or_too_many}
use Rattle.pb_make_laws.proofs.BlocksTree.{blocks_tree}
use Rattle.pb_make_laws.proofs.BlocksRead.{IsBlocksProblem}
use Rattle.pb_make_laws.proofs.BlocksTyped.{object_count, well_typed}

-- ---- at most 14 objects

-- how many lists of so many objects there are at most
abbrev most : (kinds : List ℕ) → ℕ
most [] = 1
most (kind ∷ kinds) = 14 * most kinds

abbrev most_of : (lists : List (List ℕ)) → ℕ
most_of [] = 0
most_of (kinds ∷ lists) = most kinds + most_of lists

fit_or_not : (test : Bool) (i few : ℕ) (rest : List ℕ) → length rest ≤ few → length (cond test (i ∷ rest) rest) ≤ suc few
fit_or_not true i few rest less = omega (arith, less)
fit_or_not false i few rest less = omega (arith, less)

fitting_few : (types : List ℕ) (wanted i : ℕ) (kinds : List ℕ) → length (fitting_from types wanted i kinds) ≤ length kinds
fitting_few types wanted i [] = omega arith
fitting_few types wanted i (kind ∷ kinds) =
    fit_or_not (comes_to types (length types) kind wanted) i (length kinds) (fitting_from types wanted (suc i) kinds) (fitting_few types wanted (suc i) kinds)

module _ (lifted : Lifted) (few : length lifted.objects ≤ 14) where
  product_few : (kinds : List ℕ) → product_of (candidates lifted kinds) ≤ most kinds
  product_few [] = omega arith
  product_few (kind ∷ kinds) =
      let these = fitting_few lifted.types kind 0 lifted.objects in
      let one : length (fitting lifted kind) ≤ 14 = omega (arith, these, few) in
      mul-le (length (fitting lifted kind)) (product_of (candidates lifted kinds)) 14 (most kinds) one (product_few kinds)

  instances_few : (kinds : List ℕ) → length (instances lifted kinds) ≤ most kinds
  instances_few kinds = let count = product_is (candidates lifted kinds) in let rest = product_few kinds in omega (arith, count, rest)

  some_or_none : (fluent : Bool) (predicate : ℕ) (kinds : List ℕ) → length (cond fluent (map (λ objects. atom_of predicate objects) (instances lifted kinds)) []) ≤ most kinds
  some_or_none true predicate kinds =
      let count : length (map (λ objects. atom_of predicate objects) (instances lifted kinds)) ≡ length (instances lifted kinds) = length-map (instances lifted kinds) (λ objects. atom_of predicate objects) in
      let rest = instances_few kinds in omega (arith, count, rest)
  some_or_none false predicate kinds = omega arith

  atoms_few : (predicate : ℕ) (lists : List (List ℕ)) → length (atoms_from lifted predicate lists) ≤ most_of lists
  atoms_few predicate [] = omega arith
  atoms_few predicate (kinds ∷ lists) =
      let both = length-append (atoms_of lifted predicate kinds) (atoms_from lifted (suc predicate) lists) in
      let one : length (atoms_of lifted predicate kinds) ≤ most kinds = some_or_none (is_fluent lifted predicate) predicate kinds in
      let rest = atoms_few (suc predicate) lists in
      omega (arith, both, one, rest)

  abbrev params_of : List Schema → List (List ℕ)
  params_of [] = []
  params_of (schema ∷ schemas) = schema.params ∷ params_of schemas

  actions_few : (atoms : List GroundAtom) (i : ℕ) (schemas : List Schema) → length (actions_from lifted atoms i schemas) ≤ most_of (params_of schemas)
  actions_few atoms i [] = omega arith
  actions_few atoms i (schema ∷ schemas) =
      let both = length-append (actions_of lifted atoms i schema) (actions_from lifted atoms (suc i) schemas) in
      let count : length (actions_of lifted atoms i schema) ≡ length (rows_of lifted schema) = length-map (rows_of lifted schema) (λ given. action_of atoms i schema given) in
      let kept : length (rows_of lifted schema) ≤ length (instances lifted schema.params) =
      let held = length-filter (statics_hold lifted schema.pre) (instances lifted schema.params) in
      let few = count_by-le-length (statics_hold lifted schema.pre) (instances lifted schema.params) in
      omega (arith, held, few) in
      let one = instances_few schema.params in
      let rest = actions_few atoms (suc i) schemas in
      omega (arith, both, count, kept, one, rest)

-- ---- no fault

neither : {A : Type 0} (a b : Bool) (x y : Option A) → a ≡ false → b ≡ false → (if a then x else (if b then y else None)) ≡ None
neither a b x y no_first no_second = ap (λ (test : Bool). if test then x else (if b then y else None)) no_first ∙ ap (λ (test : Bool). if test then y else None) no_second

pub blocks_have_no_fault : (blocks : ℕ) → blocks ≤ 14 → (problem : Problem) → IsBlocksProblem blocks problem → first_fault blocks_tree problem ≡ None
blocks_have_no_fault blocks few problem is =
    let lifted = lifted_of blocks_tree problem in
    let count : length lifted.objects ≡ blocks = length-map _ _ ∙ object_count blocks few problem is in
    let small : length lifted.objects ≤ 14 = omega (arith, count, few) in
    let atoms : length (ground_atoms lifted) ≤ 239 = atoms_few lifted small 0 lifted.predicates in
    let actions : length (ground_actions lifted (ground_atoms lifted)) ≤ 420 = actions_few lifted small (ground_atoms lifted) 0 lifted.actions in
    let atoms_fit : length (ground_atoms lifted) ≤ most_atoms = omega (arith, atoms) in
    let actions_fit : length (ground_actions lifted (ground_atoms lifted)) ≤ 65536 = omega (arith, actions) in
    ap (λ o. or_too_many o lifted) (well_typed_is_accepted blocks_tree problem (well_typed blocks few problem is))
    ∙ neither (nat_lt most_atoms (length (ground_atoms lifted))) (nat_lt 65536 (length (ground_actions lifted (ground_atoms lifted)))) _ _
    (le-ltb most_atoms (length (ground_atoms lifted)) atoms_fit) (le-ltb 65536 (length (ground_actions lifted (ground_atoms lifted))) actions_fit)
