-- Plans are the same by numbers and by names.
use Rattle.std.proofs.Common.{◌≡◌, ◌&&◌, List, [], ◌∷◌, map, None, refl, sym, ap, ◌∙◌}
use Rattle.pb_pddl.specs.declared.tree.Domain.{Domain}
use Rattle.pb_pddl.specs.declared.tree.Problem.{Problem}
use Rattle.pb_lifted.specs.Lifted.{lifted_of}
use Rattle.pb_lifted.specs.Refusals.{first_refusal}
use Rattle.pb_lifted.specs.Space.{State, start_of}
use Rattle.pb_lifted.specs.Typing.{named}
use Rattle.pb_lifted.specs.Steps.{GroundState, ground_start, is_of_task, by_number, IsSameState}
use Rattle.pb_lifted.specs.Plans.{NamedAction, Leads, GroundAction, GroundLeads, name_action, GroundPlansArePlans, PlansAreGroundPlans}
use Rattle.pb_lifted.proofs.GroundSteps.{ground_start_is_start, ground_goal_is_goal, ground_steps_are_steps, steps_are_ground_steps}

-- the state by names of one by numbers
abbrev pub state_of : Domain → Problem → GroundState → State
state_of domain problem now f = is_of_task domain problem f && now (by_number domain problem f)

leads_by_names : (domain : Domain) (problem : Problem) → first_refusal domain problem ≡ None → (actions : List GroundAction) (now last : GroundState) (state : State) → IsSameState domain problem now state
    → GroundLeads (lifted_of domain problem) now actions last → Leads domain problem state (map (name_action domain problem) actions) (state_of domain problem last)
leads_by_names domain problem accepted [] now last state same leads = λ f. ap (λ b. is_of_task domain problem f && b) (leads (by_number domain problem f)) ∙ sym (same f)
leads_by_names domain problem accepted (a ∷ actions) now last state same leads =
    let next : GroundState = leads.0 in (
      state_of domain problem next,
      ground_steps_are_steps domain problem now next state (state_of domain problem next) a.0 a.1 accepted same leads.1 (λ f. refl),
      leads_by_names domain problem accepted actions next last (state_of domain problem next) (λ f. refl) leads.2,
    )

-- what the same actions by numbers lead to
abbrev pub LeadsByNumbers : Domain → Problem → GroundState → List NamedAction → State → Type 0
LeadsByNumbers domain problem now actions last =
    (ground : List GroundAction) × (ground_last : GroundState) × (actions ≡ map (name_action domain problem) ground) × GroundLeads (lifted_of domain problem) now ground ground_last
    × IsSameState domain problem ground_last last

leads_by_numbers : (domain : Domain) (problem : Problem) → first_refusal domain problem ≡ None → (actions : List NamedAction) (now : GroundState) (state last : State)
    → IsSameState domain problem now state → Leads domain problem state actions last → LeadsByNumbers domain problem now actions last
leads_by_numbers domain problem accepted [] now state last same leads = ([], now, refl, λ f. refl, λ f. leads f ∙ same f)
leads_by_numbers domain problem accepted (a ∷ actions) now state last same leads =
    let step = steps_are_ground_steps domain problem now state leads.0 a.0 a.1 accepted same leads.1 in
    let rest : LeadsByNumbers domain problem step.1 actions last = leads_by_numbers domain problem accepted actions step.1 leads.0 last step.4 leads.2 in
    let first : NamedAction = (a.0, named domain problem step.0) in
    let with_names : a ≡ first = ap (λ os. let b : NamedAction = (a.0, os) in b) step.2 in
    ((a.0, step.0) ∷ rest.0, rest.1, ap (λ b. b ∷ actions) with_names ∙ ap (λ bs. first ∷ bs) rest.2, (step.1, step.3, rest.3), rest.4)

pub ground_plans_are_plans : GroundPlansArePlans
ground_plans_are_plans domain problem actions accepted plan =
    let same : IsSameState domain problem (ground_start (lifted_of domain problem)) (start_of problem) = ground_start_is_start domain problem accepted in (
      state_of domain problem plan.0,
      leads_by_names domain problem accepted actions (ground_start (lifted_of domain problem)) plan.0 (start_of problem) same plan.1,
      (ground_goal_is_goal domain problem plan.0 (state_of domain problem plan.0) accepted (λ f. refl)).0 plan.2,
    )

pub plans_are_ground_plans : PlansAreGroundPlans
plans_are_ground_plans domain problem actions accepted plan =
    let same : IsSameState domain problem (ground_start (lifted_of domain problem)) (start_of problem) = ground_start_is_start domain problem accepted in
    let found : LeadsByNumbers domain problem (ground_start (lifted_of domain problem)) actions plan.0 =
    leads_by_numbers domain problem accepted actions (ground_start (lifted_of domain problem)) (start_of problem) plan.0 same plan.1 in
    (found.0, found.2, (found.1, found.3, (ground_goal_is_goal domain problem found.1 plan.0 accepted found.4).1 plan.2))
