-- STRIPS over numbered ground atoms (R. E. Fikes and N. J. Nilsson, "STRIPS: a new approach to the
-- application of theorem proving to problem solving", 1971). A state is a set of atoms. An action
-- is applicable if the atoms that it needs hold. It leads to the state without the atoms that it
-- deletes, together with those that it adds.
use Rattle.std.specs.Prelude.{◌≡◌, ℕ, zero, suc, ◌+◌, ◌*◌, ◌^◌, ◌<◌, ◌≤◌, Bool, true, not, IsTrue, List, [], length, All, Option, None, Some, slice_get, slice_index_or, if◌then◌else◌, nat_lt, ◌==◌, ◌&&◌, ◌||◌}
use Rattle.pb_packed.specs.Bits.{bits_of, bit_number}
use Rattle.pb_packed.specs.Sizes.{most_atoms}
use Rattle.pb_model.specs.Space.{Space}
use Rattle.pb_task.specs.declared.parts.GroundAction.{GroundAction}
use Rattle.pb_task.specs.declared.parts.StripsParts.{StripsParts}

-- ---- sets of atoms as numbers: an atom is in the set if the bit of its number is 1

abbrev pub has_atom : (set atom : ℕ) → Bool
has_atom set atom = bits_of set atom 1 == 1

-- the set of those of the first `count` atoms that a test accepts
abbrev pub set_of : (count : ℕ) → (accepts : ℕ → Bool) → ℕ
set_of zero accepts = 0
set_of (suc atom) accepts = set_of atom accepts + bit_number (accepts atom) * 2 ^ atom

-- those of the first `count` atoms that are in the one set are in the other
abbrev pub is_within : (count small large : ℕ) → Bool
is_within zero small large = true
is_within (suc atom) small large =
    is_within atom small large && (not (has_atom small atom) || has_atom large atom)

-- ---- steps

-- whether an atom holds after an action: it is added, or it held and is not deleted
abbrev pub holds_after : GroundAction → (state atom : ℕ) → Bool
holds_after action state atom =
    has_atom action.adds atom || (has_atom state atom && not (has_atom action.deletes atom))

-- the state after an action
abbrev pub state_after : (count : ℕ) → GroundAction → (state : ℕ) → ℕ
state_after count action state = set_of count (holds_after action state)

-- the step by an action, if there is such an action and the atoms that it needs hold
abbrev pub step_by : (count : ℕ) → (action : Option GroundAction) → (state : ℕ) → Option (ℕ × ℕ)
step_by count None state = None
step_by count (Some action) state =
    if is_within count action.needs state then Some (state_after count action state, action.cost)
    else None

-- a state is a set of the task's atoms, with all other bits 0
abbrev pub is_atom_set : (count state : ℕ) → Bool
is_atom_set count state = nat_lt state (2 ^ count)

abbrev pub strips_step : StripsParts → (state action : ℕ) → Option (ℕ × ℕ)
strips_step strips state action =
    if is_atom_set strips.atoms state then step_by strips.atoms (slice_get strips.actions action)
    state else None

-- a goal state holds all atoms of the goal; there is none if the goal asks for a fact that can
-- never hold
abbrev pub is_strips_goal : StripsParts → (state : ℕ) → Bool
is_strips_goal strips state = not strips.never && is_within strips.atoms strips.goal state

-- the state space of a STRIPS task
abbrev pub strips_space : StripsParts → Space
strips_space strips = record {
  start = strips.start;
  is_state = is_atom_set strips.atoms;
  is_goal = is_strips_goal strips;
  actions = length strips.actions;
  step = strips_step strips;
}

-- the action of a number, and one that changes nothing if there are fewer
abbrev pub action_at : List GroundAction → (number : ℕ) → GroundAction
action_at actions number =
    slice_index_or actions number (record { name = []; needs = 0; adds = 0; deletes = 0; cost = 1 })

-- the name of an action, if there is one
abbrev pub name_of : Option GroundAction → List ℕ
name_of None = []
name_of (Some action) = action.name

abbrev pub name_in : (actions : List GroundAction) → (action : ℕ) → List ℕ
name_in actions action = name_of (slice_get actions action)

-- An action's sets are of the task's atoms, and its cost is 1 to 2^20.
pub record IsGroundAction (count : ℕ) (action : GroundAction) : Type 0 where
  pub needs : action.needs < 2 ^ count
  pub adds : action.adds < 2 ^ count
  pub deletes : action.deletes < 2 ^ count
  pub cost : (1 ≤ action.cost) × (action.cost ≤ 2 ^ 20)

-- There are no more atoms than a task may have and at most 65,536 actions, and start and goal are
-- sets of the atoms.
pub record IsStrips (strips : StripsParts) : Type 0 where
  pub atoms : strips.atoms ≤ most_atoms
  pub few : length strips.actions ≤ 65536
  pub actions : All (IsGroundAction strips.atoms) strips.actions
  pub start : strips.start < 2 ^ strips.atoms
  pub goal : strips.goal < 2 ^ strips.atoms

-- An action leads from one set of atoms to another. The first has all atoms that the action needs.
-- An atom is in the second exactly if the action adds it, or if it is in the first and the action
-- doesn't delete it.
pub record Acts (strips : StripsParts) (from action to cost : ℕ) : Type 0 where
  pub act : GroundAction
  pub is : slice_get strips.actions action ≡ Some act
  pub from_set : from < 2 ^ strips.atoms
  pub needed : (atom : ℕ) → atom < strips.atoms → IsTrue (has_atom act.needs atom)
      → IsTrue (has_atom from atom)
  pub to_set : to < 2 ^ strips.atoms
  pub result : (atom : ℕ) → atom < strips.atoms → has_atom to atom ≡ holds_after act from atom
  pub price : cost ≡ act.cost
