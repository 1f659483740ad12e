-- The estimate hmax of STRIPS tasks (B. Bonet and H. Geffner, "Planning as heuristic search",
-- Artificial Intelligence 129, 2001). It takes deleted atoms as still holding. An atom that holds
-- costs nothing. Any other costs as much as the cheapest action that adds it, together with the
-- dearest of the atoms that this action needs. The estimate of a state is the cost of the dearest
-- atom of the goal.
use Rattle.std.specs.Prelude.{◌≡◌, ℕ, zero, suc, ◌+◌, ◌<◌, ◌≤◌, min, max, Bool, true, false, List, [], ◌∷◌, Option, None, Some, option_map, if◌then◌else◌}
use Rattle.pb_model.specs.declared.row.Estimate.{Estimate}
use Rattle.pb_model.specs.declared.row.Estimate.TheVariants.{Cost, Dead}
use Rattle.pb_task.specs.declared.parts.GroundAction.{GroundAction}
use Rattle.pb_task.specs.declared.parts.StripsParts.{StripsParts}
use Rattle.pb_task.specs.Strips.{has_atom}

-- ---- what an atom costs; None if no cost is enough

abbrev pub lesser : (one other : Option ℕ) → Option ℕ
lesser None other = other
lesser (Some n) None = Some n
lesser (Some n) (Some m) = Some (min n m)

abbrev pub greater : (one other : Option ℕ) → Option ℕ
greater None other = None
greater (Some n) None = None
greater (Some n) (Some m) = Some (max n m)

-- the atom costs this much at most
abbrev pub IsAtMost : Option ℕ → (cost : ℕ) → Type 0
IsAtMost None cost = ⊥
IsAtMost (Some n) cost = n ≤ cost

-- the greatest of the costs of those of the first `count` atoms that are in the set; 0 if there is
-- none
abbrev pub dearest : (costs : ℕ → Option ℕ) → (set count : ℕ) → Option ℕ
dearest costs set zero = Some 0
dearest costs set (suc atom) =
    greater (dearest costs set atom) (if has_atom set atom then costs atom else Some 0)

-- what an atom costs by an action: the action's cost, with the dearest of the atoms that it needs
abbrev pub cost_by : (count : ℕ) → (costs : ℕ → Option ℕ) → (atom : ℕ) → GroundAction → Option ℕ
cost_by count costs atom action =
    if has_atom action.adds atom then option_map (λ needed. action.cost + needed)
    (dearest costs action.needs count) else None

-- the cost of an atom by the cheapest of these actions
abbrev pub cheapest_by : (count : ℕ) → (costs : ℕ → Option ℕ) → (atom : ℕ) → List GroundAction
    → Option ℕ
cheapest_by count costs atom [] = None
cheapest_by count costs atom (action ∷ actions) =
    lesser (cost_by count costs atom action) (cheapest_by count costs atom actions)

-- What an atom costs from a state after so many rounds. In each round an atom becomes as cheap as
-- the actions make it by the costs of the round before.
abbrev pub atom_cost : StripsParts → (state round atom : ℕ) → Option ℕ
atom_cost strips state zero atom = if has_atom state atom then Some 0 else None
atom_cost strips state (suc round) atom =
    lesser (atom_cost strips state round atom)
    (cheapest_by strips.atoms (atom_cost strips state round) atom strips.actions)

-- ---- the estimate

-- what the dearest atom of the goal costs after as many rounds as there are atoms
abbrev pub goal_cost : StripsParts → (state : ℕ) → Option ℕ
goal_cost strips state = dearest (atom_cost strips state strips.atoms) strips.goal strips.atoms

-- no cost is enough from a dead state, nor from any state if the goal asks for a fact that never
-- holds
abbrev pub estimate_by : (never : Bool) → (cost : Option ℕ) → Estimate
estimate_by true cost = Dead
estimate_by false None = Dead
estimate_by false (Some cost) = Cost cost

abbrev pub hmax : StripsParts → (state : ℕ) → Estimate
hmax strips state = estimate_by strips.never (goal_cost strips state)

-- ---- the equation of hmax

-- An atom that holds costs nothing. Any other costs as much as the cheapest action that adds it,
-- together with the dearest of the atoms that this action needs.
abbrev pub SatisfyHmax : StripsParts → (state : ℕ) → (costs : ℕ → Option ℕ) → Type 0
SatisfyHmax strips state costs =
    (atom : ℕ) → atom < strips.atoms → costs atom
    ≡ (if has_atom state atom then Some 0 else cheapest_by strips.atoms costs atom strips.actions)
