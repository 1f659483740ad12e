-- The numbers of ground atoms are below their count, so the task of a domain and a problem is one.
use Rattle.std.proofs.Common.{◌≡◌, ◌<◌, ◌≤◌, ℕ, suc, Bool, true, false, cond, nat_eq, List, [], ◌∷◌, ◌++◌, length, map, All, Option, Some, None, option_map, refl, arith}
use Rattle.std.proofs.lemmas.List.{length-map}
use Rattle.std.proofs.lemmas.List.Elements.{All-nil, All-cons, All-append, All-weaker}
use Rattle.std.specs.List.{list_any}
use Rattle.pb_packed.specs.Sizes.{most_atoms}
use Rattle.pb_pddl.specs.declared.tree.Domain.{Domain}
use Rattle.pb_pddl.specs.declared.tree.Problem.{Problem}
use Rattle.pb_lifted.specs.declared.lifted.Lifted.{Lifted}
use Rattle.pb_lifted.specs.declared.lifted.LiftedAtom.{LiftedAtom}
use Rattle.pb_lifted.specs.declared.lifted.Schema.{Schema}
use Rattle.pb_lifted.specs.Lifted.{lifted_of}
use Rattle.pb_lifted.specs.Refusals.{first_refusal}
use Rattle.pb_ground.specs.declared.actions.ActionInstance as instance
use Rattle.pb_ground.specs.declared.atoms.GroundAtom.{GroundAtom}
use Rattle.pb_ground.specs.Atoms.{grounded, number_in, same_atom}
use Rattle.pb_ground.specs.Actions.{with_number_in, numbers_with, numbers_of, action_of, kept_actions_of, kept_actions_from, kept_actions, kept_rows}
use Rattle.pb_ground.specs.Steps.{Facts}
use Rattle.pb_task.specs.declared.grounding.Grounding.{Grounding}
use Rattle.pb_task.specs.Strips.{IsGroundAction, IsStrips}
use Rattle.pb_strips.specs.Grounding.{packed_action, strips_by}
use Rattle.pb_strips.specs.Packing.{AreAtoms, HasAtoms}
use Rattle.pb_strips.proofs.CostsBelow.{IsInRange, actions_in_range}
use Rattle.pb_strips.proofs.AtomSets.{set_below}

-- ---- numbers

pub number_below : (atom : GroundAtom) (atoms : List GroundAtom) (n : ℕ) → number_in atom atoms ≡ Some n → n < length atoms
number_below atom [] n e = cc
number_below atom (first ∷ atoms) n e = at (same_atom atom first) (number_in atom atoms) (number_below atom atoms) e
  where
    at : (same : Bool) (later : Option ℕ) → ((k : ℕ) → later ≡ Some k → k < length atoms) → cond same (Some 0) (option_map suc later) ≡ Some n → n < suc (length atoms)
    at true later below h = let first_is : 0 ≡ n = cc in omega arith
    at false None below h = cc
    at false (Some k) below h = let one_more : suc k ≡ n = cc in let less : k < length atoms = below k refl in omega arith

-- the numbers of a list's atoms, behind some that are below the count
all_below : (atoms : List GroundAtom) (given numbers : List ℕ) (list : List LiftedAtom) → AreAtoms (length atoms) numbers
    → AreAtoms (length atoms) (numbers_with atoms given numbers list)
all_below atoms given numbers [] below = below
all_below atoms given numbers (a ∷ list) below =
    all_below atoms given (with_number_in numbers (number_in (grounded given a) atoms)) list (one (number_in (grounded given a) atoms) refl)
  where
    one : (number : Option ℕ) → number_in (grounded given a) atoms ≡ number → AreAtoms (length atoms) (with_number_in numbers number)
    one None e = below
    one (Some n) e = at (list_any (nat_eq n) numbers)
      where
        at : (there : Bool) → AreAtoms (length atoms) (cond there numbers (numbers ++ n ∷ []))
        at true = below
        at false = All-append (λ k. k < length atoms) numbers (n ∷ []) below (All-cons (λ k. k < length atoms) n [] (number_below (grounded given a) atoms n e) (All-nil (λ k. k < length atoms)))

pub numbers_below : (atoms : List GroundAtom) (given : List ℕ) (list : List LiftedAtom) → AreAtoms (length atoms) (numbers_of atoms given list)
numbers_below atoms given list = all_below atoms given [] list (All-nil (λ n. n < length atoms))

pub are_below : (few count : ℕ) (numbers : List ℕ) → few ≤ count → AreAtoms few numbers → AreAtoms count numbers
are_below few count numbers less = All-weaker (λ n. n < few) (λ n. n < count) (λ n below. omega arith) numbers

-- ---- ground actions

action_has : (atoms : List GroundAtom) (i : ℕ) (schema : Schema) (given : List ℕ) → HasAtoms (length atoms) (action_of atoms i schema given)
action_has atoms i schema given = record {
  needs = numbers_below atoms given schema.pre;
  adds = numbers_below atoms given schema.adds;
  deletes = numbers_below atoms given schema.deletes;
}

all_have : (atoms : List GroundAtom) (i : ℕ) (schema : Schema) (rows : List (List ℕ)) → All (HasAtoms (length atoms)) (map (λ given. action_of atoms i schema given) rows)
all_have atoms i schema [] = All-nil (HasAtoms (length atoms))
all_have atoms i schema (given ∷ rows) =
    All-cons (HasAtoms (length atoms)) (action_of atoms i schema given) (map (λ given. action_of atoms i schema given) rows) (action_has atoms i schema given) (all_have atoms i schema rows)

pub actions_have : (lifted : Lifted) (kept : Facts) (atoms : List GroundAtom) (i : ℕ) (schemas : List Schema) → All (HasAtoms (length atoms)) (kept_actions_from lifted kept atoms i schemas)
actions_have lifted kept atoms i [] = All-nil (HasAtoms (length atoms))
actions_have lifted kept atoms i (schema ∷ later) =
    All-append (HasAtoms (length atoms)) (kept_actions_of lifted kept atoms i schema) (kept_actions_from lifted kept atoms (suc i) later)
    (all_have atoms i schema (kept_rows lifted kept schema)) (actions_have lifted kept atoms (suc i) later)

has_below : (few count : ℕ) → few ≤ count → (action : instance.ActionInstance) → HasAtoms few action → HasAtoms count action
has_below few count less action has = record {
  needs = are_below few count action.needs less has.needs;
  adds = are_below few count action.adds less has.adds;
  deletes = are_below few count action.deletes less has.deletes;
}

pub have_below : (few count : ℕ) (actions : List instance.ActionInstance) → few ≤ count → All (HasAtoms few) actions → All (HasAtoms count) actions
have_below few count actions less = All-weaker (HasAtoms few) (HasAtoms count) (has_below few count less) actions

-- ---- the task

packed_is : (domain : Domain) (problem : Problem) (count : ℕ) (action : instance.ActionInstance) → IsInRange action → IsGroundAction count (packed_action domain problem count action)
packed_is domain problem count action range = record {
  needs = set_below count _;
  adds = set_below count _;
  deletes = set_below count _;
  cost = range;
}

all_packed : (domain : Domain) (problem : Problem) (count : ℕ) (actions : List instance.ActionInstance) → All IsInRange actions → All (IsGroundAction count) (map (packed_action domain problem count) actions)
all_packed domain problem count [] range = All-nil (IsGroundAction count)
all_packed domain problem count (action ∷ actions) range =
    All-cons (IsGroundAction count) (packed_action domain problem count action) (map (packed_action domain problem count) actions) (packed_is domain problem count action (range 0 action (omega arith)))
    (all_packed domain problem count actions (λ k d less. range (suc k) d (omega arith)))

pub is_strips : (domain : Domain) (problem : Problem) (grounding : Grounding) (kept : Facts) (atoms : List GroundAtom) → first_refusal domain problem ≡ None → length atoms ≤ most_atoms
    → length (kept_actions (lifted_of domain problem) kept atoms) ≤ 65536 → IsStrips (strips_by domain problem grounding kept atoms)
is_strips domain problem grounding kept atoms accepted few_atoms few_actions =
    let lifted : Lifted = lifted_of domain problem in
    let actions : List instance.ActionInstance = kept_actions lifted kept atoms in
    let many : length (map (packed_action domain problem (length atoms)) actions) ≡ length actions = length-map actions (packed_action domain problem (length atoms)) in
    record {
      atoms = few_atoms;
      few = omega (arith, many, few_actions);
      actions = all_packed domain problem (length atoms) actions (actions_in_range domain problem accepted kept atoms);
      start = set_below (length atoms) _;
      goal = set_below (length atoms) _;
    }
