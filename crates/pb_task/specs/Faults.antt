-- What keeps a list of actions from being a plan.
use Rattle.std.specs.Prelude.{◌≡◌, ℕ, false, List, take, None, Some, slice_get}
use Rattle.pb_model.specs.Space.{Space}
use Rattle.pb_model.specs.Plan.{Walk}
use Rattle.pb_task.specs.declared.plan.PlanFault.{PlanFault}
use Rattle.pb_task.specs.declared.plan.PlanFault.TheVariants.{Step, NotGoal}

-- the first actions lead from the start to this state
abbrev pub LeadTo : Space → List ℕ → (state : ℕ) → Type 0
LeadTo space actions state = (cost : ℕ) × Walk space space.start actions cost state

-- Step: the actions before this one are applicable, one after another, and this one is not.
-- NotGoal: all actions are applicable, and they lead to no goal.
abbrev pub IsFault : Space → List ℕ → PlanFault → Type 0
IsFault space actions (Step at) =
    (state : ℕ) × (action : ℕ) × LeadTo space (take at actions) state
    × (slice_get actions at ≡ Some action) × (space.step state action ≡ None)
IsFault space actions NotGoal =
    (state : ℕ) × LeadTo space actions state × (space.is_goal state ≡ false)
