-- Plans by bits and by names are the same.
use Rattle.std.proofs.Common.{◌≡◌, ◌<◌, ◌^◌, ◌+◌, ℕ, not, ◌&&◌, ◌||◌, List, [], ◌∷◌, length, map, None, refl, sym, ap, ◌∙◌, subst}
use Rattle.std.proofs.lemmas.List.Sums.{sum_by-cons}
use Rattle.pb_model.specs.Space.{Steps}
use Rattle.pb_model.specs.Plan.{Walk, Plan}
use Rattle.pb_model.specs.Plan as packed
use Rattle.pb_pddl.specs.declared.tree.Domain.{Domain}
use Rattle.pb_pddl.specs.declared.tree.Problem.{Problem}
use Rattle.pb_lifted.specs.Lifted.{lifted_of}
use Rattle.pb_lifted.specs.Plans.{NamedAction, IsPlan, Leads, step_cost, plan_cost}
use Rattle.pb_lifted.specs.Space.{Fact, State, IsStep, AllHold, added, deleted, facts_of, is_fact_in, start_of, IsGoal}
use Rattle.pb_ground.specs.Atoms.{ground_atoms, kept_atoms}
use Rattle.pb_task.specs.declared.parts.StripsParts.{StripsParts}
use Rattle.pb_task.specs.Strips.{name_in, strips_space, Acts}
use Rattle.pb_task.proofs.Callers.{strips_act}
use Rattle.pb_strips.specs.Correspondence.{facts_of_state, kept_facts, PackedPlansArePlans, PlansArePackedPlans, StepsAreByNames, PlansAreByNames, KeptPlansAreByNames}
use Rattle.pb_strips.specs.Grounding.{strips_of, kept_strips}
use Rattle.pb_strips.specs.Names.{action_text}
use Rattle.pb_strips.specs.Refusals.{first_fault}
use Rattle.pb_strips.proofs.AtomSets.{set_below}
use Rattle.pb_strips.proofs.StepsAgree.{kept_steps, all_steps}

-- ---- states with the same facts

abbrev Same : State → State → Type 0
Same state other = (f : Fact) → state f ≡ other f

hold_too : (state other : State) (facts : List Fact) → Same other state → AllHold state facts → AllHold other facts
hold_too state other [] same all = tt
hold_too state other (f ∷ facts) same all = (same f ∙ all.0, hold_too state other facts same all.1)

step_too : (domain : Domain) (problem : Problem) (state other next : State) (i : ℕ) (objects : List (List ℕ)) → Same other state → IsStep domain problem state i objects next
    → IsStep domain problem other i objects next
step_too domain problem state other next i objects same step = record {
  action = step.action;
  declared = step.declared;
  fits = step.fits;
  applicable = hold_too state other (facts_of step.action.params objects step.action.pre) same step.applicable;
  result =
      λ f. step.result f
      ∙ ap (λ b. is_fact_in f (added step.action.params objects step.action.effect) || (b && not (is_fact_in f (deleted step.action.params objects step.action.effect)))) (sym (same f));
}

module _ (domain : Domain) (problem : Problem) (task : StripsParts) (facts : ℕ → State) (steps : StepsAreByNames domain problem task facts) (set : task.start < 2 ^ task.atoms) where
  -- ---- the states of a walk

  abbrev IsSet : ℕ → Type 0
  IsSet state = state < 2 ^ task.atoms

  step_stays : (from action to cost : ℕ) → Steps (strips_space task) from action to cost → IsSet to
  step_stays from action to cost step = let act : Acts task from action to cost = (strips_act task from action to cost).0 step in act.to_set

  walk_stays : (actions : List ℕ) (from cost to : ℕ) → IsSet from → Walk (strips_space task) from actions cost to → IsSet to
  walk_stays [] from cost to small walk = let end : to ≡ from = walk.1 in subst IsSet (sym end) small
  walk_stays (action ∷ actions) from cost to small walk = walk_stays actions walk.0 walk.2 to (step_stays from action walk.0 walk.1 walk.3) walk.4

  -- ---- a walk by bits is one by names

  abbrev NamedWalk : State → List ℕ → (cost to : ℕ) → Type 0
  NamedWalk state actions cost to =
      (names : List NamedAction) × Leads domain problem state names (facts to) × (map (action_text domain) names ≡ map (name_in task.actions) actions) × (cost ≡ plan_cost domain problem names)

  walk_by_names : (actions : List ℕ) (from cost to : ℕ) (state : State) → Same state (facts from) → Walk (strips_space task) from actions cost to → NamedWalk state actions cost to
  walk_by_names [] from cost to state same walk = ([], λ f. ap (λ s. facts s f) walk.1 ∙ sym (same f), refl, walk.0)
  walk_by_names (action ∷ actions) from cost to state same walk =
      let next : ℕ = walk.0 in
      let step = steps.to_names from action next walk.1 walk.3 in
      let rest : NamedWalk (facts next) actions walk.2 to = walk_by_names actions next walk.2 to (facts next) (λ f. refl) walk.4 in
      let sum : cost ≡ walk.1 + walk.2 = walk.5 in
      let one : walk.1 ≡ step_cost domain problem step.0 = step.3 in
      let later : walk.2 ≡ plan_cost domain problem rest.0 = rest.3 in (
        step.0 ∷ rest.0,
        (facts next, step_too domain problem (facts from) state (facts next) step.0.0 step.0.1 same step.1, rest.1),
        ap (λ text. text ∷ map (action_text domain) rest.0) (sym step.2) ∙ ap (λ xs. name_in task.actions action ∷ xs) rest.2,
        sum ∙ (ap (λ n. n + walk.2) one ∙ (ap (λ n. step_cost domain problem step.0 + n) later ∙ sym (sum_by-cons (step_cost domain problem) step.0 rest.0))),
      )

  plans_to_names : (plan : Plan) → packed.IsPlan (strips_space task) plan
      → (actions : List NamedAction) × IsPlan domain problem actions × (map (action_text domain) actions ≡ map (name_in task.actions) plan.actions) × (plan.cost ≡ plan_cost domain problem actions)
  plans_to_names plan is =
      let goal : ℕ = is.0 in
      let walk : NamedWalk (start_of problem) plan.actions plan.cost goal = walk_by_names plan.actions task.start plan.cost goal (start_of problem) (λ f. sym (steps.start f)) is.1 in
      let small : IsSet goal = walk_stays plan.actions task.start plan.cost goal set is.1 in (walk.0, (facts goal, walk.1, (steps.goals goal small).0 is.2), walk.2, walk.3)

  -- ---- a walk by names is one by bits

  record IsWalked (from : ℕ) (names : List NamedAction) (last : State) : Type 0 where
    pub numbers : List ℕ
    pub to : ℕ
    pub walk : Walk (strips_space task) from numbers (plan_cost domain problem names) to
    pub small : IsSet to
    pub same : Same last (facts to)
    pub texts : map (name_in task.actions) numbers ≡ map (action_text domain) names

  walk_by_numbers : (names : List NamedAction) (from : ℕ) (state last : State) → IsSet from → Same state (facts from) → Leads domain problem state names last → IsWalked from names last
  walk_by_numbers [] from state last small same leads = record { numbers = []; to = from; walk = (refl, refl); small = small; same = λ f. leads f ∙ same f; texts = refl }
  walk_by_numbers (name ∷ names) from state last small same leads =
      let next : State = leads.0 in
      let by_facts : IsStep domain problem (facts from) name.0 name.1 next = step_too domain problem state (facts from) next name.0 name.1 (λ f. sym (same f)) leads.1 in
      let step = steps.to_bits from name next small by_facts in
      let rest : IsWalked step.1 names last = walk_by_numbers names step.1 next last (step_stays from step.0 step.1 (step_cost domain problem name) step.2) step.4 leads.2 in
      record {
        numbers = step.0 ∷ rest.numbers;
        to = rest.to;
        walk = (step.1, step_cost domain problem name, plan_cost domain problem names, step.2, rest.walk, sum_by-cons (step_cost domain problem) name names);
        small = rest.small;
        same = rest.same;
        texts = ap (λ text. text ∷ map (name_in task.actions) rest.numbers) step.3 ∙ ap (λ xs. action_text domain name ∷ xs) rest.texts;
      }

  plans_to_bits : (actions : List NamedAction) → IsPlan domain problem actions
      → (numbers : List ℕ) × packed.IsPlan (strips_space task) (record { actions = numbers; cost = plan_cost domain problem actions })
      × (map (name_in task.actions) numbers ≡ map (action_text domain) actions)
  plans_to_bits actions plan =
      let walked : IsWalked task.start actions plan.0 = walk_by_numbers actions task.start (start_of problem) plan.0 set (λ f. sym (steps.start f)) plan.1 in
      let goal : IsGoal problem (facts walked.to) = hold_too plan.0 (facts walked.to) (facts_of [] [] problem.goal) (λ f. sym (walked.same f)) plan.2 in
      (walked.numbers, (walked.to, walked.walk, (steps.goals walked.to walked.small).1 goal), walked.texts)

  pub plans_are_by_names : PlansAreByNames domain problem task
  plans_are_by_names = record { to_names = plans_to_names; to_bits = plans_to_bits }

-- ---- the cases

pub kept_plans : KeptPlansAreByNames
kept_plans domain problem grounding kept none keeping =
    plans_are_by_names domain problem (kept_strips domain problem grounding kept) (kept_facts domain problem kept) (kept_steps domain problem grounding kept none keeping)
    (set_below (length (kept_atoms (lifted_of domain problem) kept)) _)

pub all_plans : (domain : Domain) (problem : Problem) → first_fault domain problem ≡ None → PlansAreByNames domain problem (strips_of domain problem)
all_plans domain problem none =
    plans_are_by_names domain problem (strips_of domain problem) (facts_of_state domain problem) (all_steps domain problem none)
    (set_below (length (ground_atoms (lifted_of domain problem))) _)

pub packed_plans_are_plans : PackedPlansArePlans
packed_plans_are_plans domain problem plan none is = (all_plans domain problem none).to_names plan is

pub plans_are_packed_plans : PlansArePackedPlans
plans_are_packed_plans domain problem actions none plan = (all_plans domain problem none).to_bits actions plan
