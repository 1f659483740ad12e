-- Schemas cost what their actions cost, and each costs 1 to 2^20.
use Rattle.std.proofs.Common.{◌≡◌, ◌≤◌, ◌^◌, ◌+◌, ℕ, zero, suc, Option, Some, None, List, [], ◌∷◌, map, All, refl, sym, ap, ◌∙◌, subst, arith}
use Rattle.std.specs.List.{slice_get}
use Rattle.std.proofs.lemmas.List.Sums.{sum_by-cons}
use Rattle.pb_pddl.specs.declared.tree.Cost.{Cost}
use Rattle.pb_pddl.specs.declared.tree.Action.{Action}
use Rattle.pb_pddl.specs.declared.tree.Domain.{Domain}
use Rattle.pb_pddl.specs.declared.tree.Problem.{Problem}
use Rattle.pb_lifted.specs.Costs.{increase_of, cost_with, cost_of, cost_if, cost_at}
use Rattle.pb_lifted.specs.Lifted.{lifted_of}
use Rattle.pb_lifted.specs.Steps.{cost_of_schema, ground_cost, SchemasCostTheSame, CostsAreInRange}
use Rattle.pb_lifted.specs.Plans.{GroundAction, step_cost, ground_plan_cost, name_action, GroundPlansCostTheSame}
use Rattle.pb_lifted.specs.Typing.{CostsFit, IsWellTyped}
use Rattle.pb_lifted.proofs.WellTyped.{accepted_is_well_typed}
use Rattle.pb_lifted.proofs.FittingObjects.{holds_at}
use Rattle.pb_lifted.proofs.GroundSteps.{schema_in}

mapped : (domain : Domain) (problem : Problem) (actions : List Action) (i : ℕ) → cost_of_schema (slice_get (map (schema_in domain problem) actions) i) ≡ cost_if problem (slice_get actions i)
mapped domain problem [] i = refl
mapped domain problem (a ∷ actions) zero = refl
mapped domain problem (a ∷ actions) (suc i) = mapped domain problem actions i

pub schemas_cost_the_same : SchemasCostTheSame
schemas_cost_the_same domain problem i = mapped domain problem domain.actions i

pub ground_plans_cost_the_same : GroundPlansCostTheSame
ground_plans_cost_the_same domain problem [] = refl
ground_plans_cost_the_same domain problem (a ∷ actions) =
    let ground = λ (b : GroundAction). ground_cost (lifted_of domain problem) b.0 in
    sum_by-cons ground a actions
    ∙ ap (λ n. n + ground_plan_cost (lifted_of domain problem) actions) (schemas_cost_the_same domain problem a.0)
    ∙ ap (λ n. cost_at domain problem a.0 + n) (ground_plans_cost_the_same domain problem actions)
    ∙ sym (sum_by-cons (step_cost domain problem) (name_action domain problem a) (map (name_action domain problem) actions))

-- ---- the range

few_increase : (costs : List Cost) → All (λ (c : Cost). c.number ≤ 2 ^ 20) costs → increase_of costs ≤ 2 ^ 20
few_increase [] all = omega arith
few_increase (c ∷ costs) all = all 0 c (omega arith)

few : (metric : Option ℕ) (action : Action) → All (λ (c : Cost). c.number ≤ 2 ^ 20) action.costs → cost_with metric action ≤ 2 ^ 20
few None action all = omega arith
few (Some at) action all = few_increase action.costs all

pub costs_are_in_range : CostsAreInRange
costs_are_in_range domain problem i action accepted declared =
    let typed : IsWellTyped domain problem = accepted_is_well_typed domain problem accepted in
    let fit : CostsFit domain problem = typed.costs in
    let is : cost_of problem action ≡ cost_at domain problem i = ap (cost_if problem) (sym declared) in (
      subst (λ n. 1 ≤ n) is (holds_at (λ (a : Action). 1 ≤ cost_of problem a) domain.actions i action fit.some declared),
      subst (λ n. n ≤ 2 ^ 20) is
          (few problem.metric action (holds_at (λ (a : Action). All (λ (c : Cost). c.number ≤ 2 ^ 20) a.costs) domain.actions i action fit.few declared)),
    )
