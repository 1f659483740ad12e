-- A lifted task has the same state space by numbers and by names.
use Rattle.std.proofs.Common.{◌≡◌, ℕ, ◌&&◌, Some, List, [], length, map, refl, sym, ap, ◌∙◌, subst, arith}
use Rattle.std.specs.List.{slice_get}
use Rattle.std.proofs.lemmas.List.{length-map}
use Rattle.pb_pddl.specs.declared.tree.Action.{Action}
use Rattle.pb_pddl.specs.declared.tree.Domain.{Domain}
use Rattle.pb_pddl.specs.declared.tree.Problem.{Problem}
use Rattle.pb_lifted.specs.declared.lifted.Schema.{Schema}
use Rattle.pb_lifted.specs.Types.{kind_text, type_names}
use Rattle.pb_lifted.specs.Lifted.{number, schema_of, lifted_of}
use Rattle.pb_lifted.specs.Space.{Fact, State, IsStep, AllHold, added, deleted, facts_of, after}
use Rattle.pb_lifted.specs.Typing.{object_names, predicate_names, named, ActionFits, IsWellTyped}
use Rattle.pb_lifted.specs.Steps.{GroundFact, GroundState, AreFitting, AllGroundHold, IsGroundStep, ground_all, ground_after, is_of_task, by_number, IsSameState, GroundStepsAreSteps, StepsAreGroundSteps, GroundStartIsStart, GroundGoalIsGoal}
use Rattle.pb_lifted.proofs.WellTyped.{accepted_is_well_typed}
use Rattle.pb_lifted.proofs.TwinFacts.{Twins, same_start, same_after, hold_by_names, hold_by_numbers}
use Rattle.pb_lifted.proofs.TwinAtoms.{AreBelow, twin_atoms, twin_adds, twin_deletes}
use Rattle.pb_lifted.proofs.FittingObjects.{holds_at, at_mapped, mapped_at, given_names, given_numbers, fitting_count, objects_below}

none_below : (names : List (List ℕ)) → AreBelow names []
none_below names k less = absurd (omega arith)

pub ground_start_is_start : GroundStartIsStart
ground_start_is_start domain problem accepted =
    let typed : IsWellTyped domain problem = accepted_is_well_typed domain problem accepted in
    same_start domain problem (facts_of [] [] problem.init) (ground_all [] (lifted_of domain problem).init)
    (twin_atoms domain problem [] [] problem.init typed.distinct (none_below (object_names domain problem)) refl typed.init)

pub ground_goal_is_goal : GroundGoalIsGoal
ground_goal_is_goal domain problem now state accepted same =
    let typed : IsWellTyped domain problem = accepted_is_well_typed domain problem accepted in
    let twins : Twins domain problem (facts_of [] [] problem.goal) (ground_all [] (lifted_of domain problem).goal) =
    twin_atoms domain problem [] [] problem.goal typed.distinct (none_below (object_names domain problem)) refl typed.goal in (
      hold_by_names domain problem now state (facts_of [] [] problem.goal) (ground_all [] (lifted_of domain problem).goal) same twins,
      hold_by_numbers domain problem now state (facts_of [] [] problem.goal) (ground_all [] (lifted_of domain problem).goal) same twins,
    )

-- ---- an action and its schema

abbrev pub schema_in : Domain → Problem → Action → Schema
schema_in domain problem action = schema_of problem (type_names domain.types) (predicate_names domain) (object_names domain problem) action

-- what an action and its schema say of the same objects
pub record Says (domain : Domain) (problem : Problem) (action : Action) (given : List ℕ) : Type 0 where
  pub pre : Twins domain problem (facts_of action.params (named domain problem given) action.pre) (ground_all given (schema_in domain problem action).pre)
  pub adds : Twins domain problem (added action.params (named domain problem given) action.effect) (ground_all given (schema_in domain problem action).adds)
  pub deletes : Twins domain problem (deleted action.params (named domain problem given) action.effect) (ground_all given (schema_in domain problem action).deletes)

says : (domain : Domain) (problem : Problem) (action : Action) (given : List ℕ) → IsWellTyped domain problem → ActionFits domain problem action
    → AreFitting (lifted_of domain problem) (schema_in domain problem action).params given → Says domain problem action given
says domain problem action given typed fits fitting =
    let kinds : List ℕ = (schema_in domain problem action).params in
    let wide : length kinds ≡ length action.params = length-map action.params (λ t. number (kind_text t) (type_names domain.types)) in
    let count : length given ≡ length action.params = fitting_count (lifted_of domain problem) kinds given fitting ∙ wide in
    let below : AreBelow (object_names domain problem) given = objects_below domain problem kinds given fitting in
    record {
      pre = twin_atoms domain problem action.params given action.pre typed.distinct below count fits.pre;
      adds = twin_adds domain problem action.params given action.effect typed.distinct below count fits.effect;
      deletes = twin_deletes domain problem action.params given action.effect typed.distinct below count fits.effect;
    }

-- ---- steps

step_by_names : (domain : Domain) (problem : Problem) (now next_ground : GroundState) (state next : State) (i : ℕ) (given : List ℕ) (action : Action) → IsWellTyped domain problem
    → slice_get domain.actions i ≡ Some action → IsSameState domain problem now state → AreFitting (lifted_of domain problem) (schema_in domain problem action).params given
    → AllGroundHold now (ground_all given (schema_in domain problem action).pre)
    → ((f : GroundFact) → next_ground f ≡ ground_after now (ground_all given (schema_in domain problem action).deletes) (ground_all given (schema_in domain problem action).adds) f)
    → IsSameState domain problem next_ground next → IsStep domain problem state i (named domain problem given) next
step_by_names domain problem now next_ground state next i given action typed declared same fitting hold result same_next =
    let fits : ActionFits domain problem action = holds_at (ActionFits domain problem) domain.actions i action typed.actions declared in
    let both : Says domain problem action given = says domain problem action given typed fits fitting in
    let schema : Schema = schema_in domain problem action in
    record {
      action = action;
      declared = declared;
      fits = given_names domain problem typed action.params fits.params given fitting;
      applicable =
          hold_by_names domain problem now state (facts_of action.params (named domain problem given) action.pre) (ground_all given schema.pre) same both.pre hold;
      result =
          λ f. same_next f ∙ ap (λ b. is_of_task domain problem f && b) (result (by_number domain problem f))
          ∙ sym (same_after domain problem now state (deleted action.params (named domain problem given) action.effect) (added action.params (named domain problem given) action.effect)
          (ground_all given schema.deletes) (ground_all given schema.adds) same both.deletes both.adds f);
    }

pub ground_steps_are_steps : GroundStepsAreSteps
ground_steps_are_steps domain problem now next_ground state next i given accepted same step same_next =
    at (mapped_at (schema_in domain problem) domain.actions i step.schema step.declared)
  where
    at : ((action : Action) × (slice_get domain.actions i ≡ Some action) × (schema_in domain problem action ≡ step.schema)) → IsStep domain problem state i (named domain problem given) next
    at (action, declared, is) =
        step_by_names domain problem now next_ground state next i given action (accepted_is_well_typed domain problem accepted) declared same
        (subst (λ (s : Schema). AreFitting (lifted_of domain problem) s.params given) (sym is) step.fits)
        (subst (λ (s : Schema). AllGroundHold now (ground_all given s.pre)) (sym is) step.applicable)
        (subst (λ (s : Schema). (f : GroundFact) → next_ground f ≡ ground_after now (ground_all given s.deletes) (ground_all given s.adds) f) (sym is) step.result) same_next

-- a step by names, with objects whose numbers are given
abbrev pub StepOf : Domain → Problem → GroundState → State → State → ℕ → List ℕ → Type 0
StepOf domain problem now state next i given = (next_ground : GroundState) × IsGroundStep (lifted_of domain problem) now i given next_ground × IsSameState domain problem next_ground next

step_by_numbers : (domain : Domain) (problem : Problem) (now : GroundState) (state next : State) (i : ℕ) (given : List ℕ) (action : Action) → IsWellTyped domain problem
    → slice_get domain.actions i ≡ Some action → IsSameState domain problem now state → AreFitting (lifted_of domain problem) (schema_in domain problem action).params given
    → AllHold state (facts_of action.params (named domain problem given) action.pre)
    → ((f : Fact) → next f ≡ after state (deleted action.params (named domain problem given) action.effect) (added action.params (named domain problem given) action.effect) f)
    → StepOf domain problem now state next i given
step_by_numbers domain problem now state next i given action typed declared same fitting hold result =
    let fits : ActionFits domain problem action = holds_at (ActionFits domain problem) domain.actions i action typed.actions declared in
    let both : Says domain problem action given = says domain problem action given typed fits fitting in
    let schema : Schema = schema_in domain problem action in
    let next_ground : GroundState = ground_after now (ground_all given schema.deletes) (ground_all given schema.adds) in (
      next_ground,
      record {
        schema = schema;
        declared = at_mapped (schema_in domain problem) domain.actions i action declared;
        fits = fitting;
        applicable =
            hold_by_numbers domain problem now state (facts_of action.params (named domain problem given) action.pre) (ground_all given schema.pre) same both.pre hold;
        result = λ f. refl;
      },
      λ f. result f
          ∙ same_after domain problem now state (deleted action.params (named domain problem given) action.effect) (added action.params (named domain problem given) action.effect)
          (ground_all given schema.deletes) (ground_all given schema.adds) same both.deletes both.adds f,
    )

pub steps_are_ground_steps : StepsAreGroundSteps
steps_are_ground_steps domain problem now state next i objects accepted same step =
    let typed : IsWellTyped domain problem = accepted_is_well_typed domain problem accepted in
    let fits : ActionFits domain problem step.action = holds_at (ActionFits domain problem) domain.actions i step.action typed.actions step.declared in
    let numbers = given_numbers domain problem typed step.action.params fits.params objects step.fits in
    let given : List ℕ = map (λ o. number o (object_names domain problem)) objects in
    let found : StepOf domain problem now state next i given =
    step_by_numbers domain problem now state next i given step.action typed step.declared same numbers.0
    (subst (λ os. AllHold state (facts_of step.action.params os step.action.pre)) numbers.1 step.applicable)
    (subst (λ os. (f : Fact) → next f ≡ after state (deleted step.action.params os step.action.effect) (added step.action.params os step.action.effect) f) numbers.1 step.result) in
    (given, found.0, numbers.1, found.1, found.2)
