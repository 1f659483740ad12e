-- Plans of a domain and a problem, by names and by numbers, and what they cost.
use Rattle.std.specs.Prelude.{◌≡◌, ℕ, List, [], ◌∷◌, map, None}
use Rattle.std.specs.List.{sum_by}
use Rattle.pb_pddl.specs.declared.tree.Domain.{Domain}
use Rattle.pb_pddl.specs.declared.tree.Problem.{Problem}
use Rattle.pb_lifted.specs.declared.lifted.Lifted.{Lifted}
use Rattle.pb_lifted.specs.Costs.{cost_at}
use Rattle.pb_lifted.specs.Lifted.{lifted_of}
use Rattle.pb_lifted.specs.Refusals.{first_refusal}
use Rattle.pb_lifted.specs.Space.{Fact, State, IsStep, start_of, IsGoal}
use Rattle.pb_lifted.specs.Typing.{named}
use Rattle.pb_lifted.specs.Steps.{GroundFact, GroundState, IsGroundStep, ground_start, IsGroundGoal, ground_cost}

-- an action by its place in the domain, with the names of its objects
abbrev pub NamedAction : Type 0
NamedAction = ℕ × List (List ℕ)

-- these actions lead, one after the other, from a state to the last
abbrev pub Leads : Domain → Problem → State → List NamedAction → State → Type 0
Leads domain problem state [] last = (f : Fact) → last f ≡ state f
Leads domain problem state (a ∷ actions) last =
    (next : State) × IsStep domain problem state a.0 a.1 next
    × Leads domain problem next actions last

-- they lead from the start to a goal
abbrev pub IsPlan : Domain → Problem → List NamedAction → Type 0
IsPlan domain problem actions =
    (last : State) × Leads domain problem (start_of problem) actions last × IsGoal problem last

-- what an action costs, whatever its objects
abbrev pub step_cost : Domain → Problem → NamedAction → ℕ
step_cost domain problem a = cost_at domain problem a.0

-- what the actions cost together
abbrev pub plan_cost : Domain → Problem → List NamedAction → ℕ
plan_cost domain problem actions = sum_by (step_cost domain problem) actions

-- a schema by its place, with the numbers of its objects
abbrev pub GroundAction : Type 0
GroundAction = ℕ × List ℕ

abbrev pub GroundLeads : Lifted → GroundState → List GroundAction → GroundState → Type 0
GroundLeads lifted state [] last = (f : GroundFact) → last f ≡ state f
GroundLeads lifted state (a ∷ actions) last =
    (next : GroundState) × IsGroundStep lifted state a.0 a.1 next
    × GroundLeads lifted next actions last

abbrev pub IsGroundPlan : Lifted → List GroundAction → Type 0
IsGroundPlan lifted actions =
    (last : GroundState) × GroundLeads lifted (ground_start lifted) actions last
    × IsGroundGoal lifted last

abbrev pub ground_plan_cost : Lifted → List GroundAction → ℕ
ground_plan_cost lifted actions = sum_by (λ (a : GroundAction). ground_cost lifted a.0) actions

abbrev pub name_action : Domain → Problem → GroundAction → NamedAction
name_action domain problem a = (a.0, named domain problem a.1)

-- A plan by numbers is one by names, with the same actions.
abbrev pub GroundPlansArePlans : Type 0
GroundPlansArePlans =
    (domain : Domain) (problem : Problem) (actions : List GroundAction)
    → first_refusal domain problem ≡ None → IsGroundPlan (lifted_of domain problem) actions
    → IsPlan domain problem (map (name_action domain problem) actions)

-- A plan by names is one by numbers, with the same actions.
abbrev pub PlansAreGroundPlans : Type 0
PlansAreGroundPlans =
    (domain : Domain) (problem : Problem) (actions : List NamedAction)
    → first_refusal domain problem ≡ None → IsPlan domain problem actions
    → (ground : List GroundAction) × (actions ≡ map (name_action domain problem) ground)
    × IsGroundPlan (lifted_of domain problem) ground

-- The same actions cost the same, by numbers and by names.
abbrev pub GroundPlansCostTheSame : Type 0
GroundPlansCostTheSame =
    (domain : Domain) (problem : Problem) (actions : List GroundAction)
    → ground_plan_cost (lifted_of domain problem) actions
    ≡ plan_cost domain problem (map (name_action domain problem) actions)
