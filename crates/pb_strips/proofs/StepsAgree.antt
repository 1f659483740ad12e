-- Steps by bits and by names are the same, and so are start and goals.
use Rattle.std.proofs.Common.{◌≡◌, ◌<◌, ◌^◌, ◌↔◌, ℕ, Bool, true, false, not, ◌&&◌, List, [], length, Option, Some, None, slice_get, IsTrue, refl, sym, ap, ◌∙◌, subst}
use Rattle.std.specs.List.{list_all}
use Rattle.std.proofs.lemmas.Bool.{and_parts, and_from}
use Rattle.pb_model.specs.Space.{Steps}
use Rattle.pb_pddl.specs.declared.tree.Domain.{Domain}
use Rattle.pb_pddl.specs.declared.tree.Problem.{Problem}
use Rattle.pb_lifted.specs.declared.lifted.Lifted.{Lifted}
use Rattle.pb_lifted.specs.declared.lifted.Schema.{Schema}
use Rattle.pb_lifted.specs.declared.refusal.TypingRefusal.{TypingRefusal}
use Rattle.pb_lifted.specs.InstanceTypes.{IsTypedInstance}
use Rattle.pb_lifted.specs.Lifted.{lifted_of}
use Rattle.pb_lifted.specs.Costs.{cost_at}
use Rattle.pb_lifted.specs.Plans.{NamedAction, step_cost}
use Rattle.pb_lifted.specs.Refusals.{first_refusal}
use Rattle.pb_lifted.specs.Space.{Fact, State, IsStep, IsGoal, start_of}
use Rattle.pb_lifted.specs.Steps.{GroundFact, AreFitting, IsGroundStep, ground_start, is_of_task, by_number}
use Rattle.pb_lifted.specs.Typing.{named}
use Rattle.pb_lifted.proofs.Callers.{at_mapped, mapped_at, ground_start_is_start, ground_goal_is_goal, ground_steps_are_steps, steps_are_ground_steps, instances_are_typed, start_is_typed, goal_is_typed}
use Rattle.pb_ground.specs.declared.actions.ActionInstance as instance
use Rattle.pb_ground.specs.declared.atoms.GroundAtom.{GroundAtom}
use Rattle.pb_ground.specs.Actions.{action_of, numbers_of, kept_actions}
use Rattle.pb_ground.specs.Atoms.{is_fluent, number_in, ground_atoms, kept_atoms}
use Rattle.pb_ground.specs.Keeping.{IsKeeping}
use Rattle.pb_ground.specs.Statics.{keep_all}
use Rattle.pb_ground.specs.Steps.{Facts, all_grounded, is_in, bits_after}
use Rattle.pb_ground.proofs.Callers.{all_atoms, all_atoms_are_a_case, kept_among, numbers_alike}
use Rattle.pb_reach.proofs.Callers.{from_fitting, to_fitting}
use Rattle.pb_task.specs.declared.grounding.Grounding.{Grounding}
use Rattle.pb_task.specs.declared.grounding.Grounding.TheVariants as groundings
use Rattle.pb_task.specs.declared.parts.GroundAction.{GroundAction}
use Rattle.pb_task.specs.declared.parts.StripsParts.{StripsParts}
use Rattle.pb_task.specs.Strips.{has_atom, holds_after, is_within, name_in, name_of, state_after, strips_space, Acts}
use Rattle.pb_task.proofs.Callers.{strips_act, Within, sets_are_of_atoms, from_within, to_within}
use Rattle.pb_strips.specs.Correspondence.{holds_by, facts_by, facts_of_state, PackedStepsAreSteps, StepsArePackedSteps, StartsAgree, GoalsAgree, StepsAreByNames, KeptStepsAreByNames, AllAreKept}
use Rattle.pb_strips.specs.Grounding.{numbered_set, packed_action, strips_by, strips_of}
use Rattle.pb_strips.specs.Names.{action_text}
use Rattle.pb_strips.specs.Refusals.{first_fault, or_too_many}
use Rattle.pb_strips.proofs.Below.{number_below, numbers_below}
use Rattle.pb_strips.proofs.Bridges.{to_atom, same_member, to_all, from_all}
use Rattle.pb_strips.proofs.CostsBelow.{schema_costs}
use Rattle.pb_strips.proofs.Instances.{IsInstance, is_instance_at, is_ready, stands}
use Rattle.pb_strips.proofs.Numbered.{AreKeptOnes, are_numbered, absent}
use Rattle.pb_strips.proofs.Packed.{has_number, all_within, within_all, packed_after}
use Rattle.pb_strips.proofs.StatesAgree.{atom_holds, fluent_holds, keeps, acts, IsAfter, facts_after_are}

pub accepted : (domain : Domain) (problem : Problem) → first_fault domain problem ≡ None → first_refusal domain problem ≡ None
accepted domain problem none = at (first_refusal domain problem) none
  where
    at : (refusal : Option TypingRefusal) → or_too_many refusal (lifted_of domain problem) ≡ None → refusal ≡ None
    at None e = refl
    at (Some refusal) e = cc

-- what the goal asks, as a schema
abbrev goal_schema : Lifted → Schema
goal_schema lifted = record { params = []; pre = lifted.goal; adds = []; deletes = []; cost = 0 }

twice_not : (b : Bool) → not (not b) ≡ true → b ≡ true
twice_not true e = refl
twice_not false e = e

not_twice : (b : Bool) → b ≡ true → not (not b) ≡ true
not_twice true e = refl
not_twice false e = e

-- ---- the task of kept atoms

module _ (domain : Domain) (problem : Problem) (grounding : Grounding) (kept : Facts) (atoms : List GroundAtom) (none : first_refusal domain problem ≡ None) (keeping : IsKeeping (lifted_of domain problem) kept)
    (among : AreKeptOnes (lifted_of domain problem) kept atoms) where
  abbrev lifted : Lifted
  lifted = lifted_of domain problem

  abbrev task : StripsParts
  task = strips_by domain problem grounding kept atoms

  abbrev facts : ℕ → State
  facts = facts_by domain problem atoms

  abbrev holds : ℕ → GroundFact → Bool
  holds = holds_by lifted atoms

  abbrev count : ℕ
  count = length atoms

  typed_at : (i : ℕ) (schema : Schema) (given : List ℕ) → slice_get lifted.actions i ≡ Some schema → AreFitting lifted schema.params given → IsTypedInstance lifted schema given
  typed_at i schema given declared fit = instances_are_typed domain problem i schema given none declared fit

  -- ---- a step by bits is one by names

  abbrev Named : (from action to cost : ℕ) → Type 0
  Named from action to cost =
      (named : NamedAction) × IsStep domain problem (facts from) named.0 named.1 (facts to) × (name_in task.actions action ≡ action_text domain named) × (cost ≡ step_cost domain problem named)

  step_of : (from action to cost : ℕ) (ground : instance.ActionInstance) (act : Acts task from action to cost) → packed_action domain problem count ground ≡ act.act
      → IsInstance lifted kept atoms ground → Named from action to cost
  step_of from action to cost ground act packed is =
      let fit : AreFitting lifted is.schema.params is.given = to_fitting lifted is.schema.params is.given is.fits in
      let typed : IsTypedInstance lifted is.schema is.given = typed_at is.i is.schema is.given is.declared fit in
      let after : IsAfter atoms from to is.i is.schema is.given =
      λ n less. act.result n less
      ∙ (ap (λ (a : GroundAction). holds_after a from n) (sym packed)
      ∙ (packed_after domain problem count ground from n less ∙ ap (λ (g : instance.ActionInstance). bits_after (has_atom from) g n) is.is)) in
      let within : Within count (numbered_set count (numbers_of atoms is.given is.schema.pre)) from =
      subst (λ (g : instance.ActionInstance). Within count (numbered_set count g.needs) from) is.is (subst (λ (a : GroundAction). Within count a.needs from) (sym packed) act.needed) in
      let needs : list_all (has_atom from) (numbers_of atoms is.given is.schema.pre) ≡ true =
      all_within count (numbers_of atoms is.given is.schema.pre) from (numbers_below atoms is.given is.schema.pre) within in
      let held : list_all (atom_holds lifted atoms from) (all_grounded is.given is.schema.pre) ≡ true =
      (acts lifted kept atoms keeping among from is.i is.schema is.given (are_numbered lifted kept atoms among is.given is.schema.pre typed.pre)).applicable
      ∙ and_from (is_ready kept is.schema is.given) (list_all (has_atom from) (numbers_of atoms is.given is.schema.pre)) is.ready needs in
      let step : IsGroundStep lifted (holds from) is.i is.given (holds to) = record {
        schema = is.schema;
        declared = is.declared;
        fits = fit;
        applicable = to_all (atom_holds lifted atoms from) is.given is.schema.pre held;
        result = facts_after_are lifted kept atoms keeping among from to is.i is.schema is.given is.declared is.fits typed is.ready after;
      } in (
        (is.i, named domain problem is.given),
        ground_steps_are_steps domain problem (holds from) (holds to) (facts from) (facts to) is.i is.given none (λ f. refl) step (λ f. refl),
        ap name_of act.is
            ∙ (ap (λ (a : GroundAction). a.name) (sym packed) ∙ ap (λ (g : instance.ActionInstance). action_text domain (g.schema, named domain problem g.objects)) is.is),
        act.price ∙ (ap (λ (a : GroundAction). a.cost) (sym packed) ∙ (ap (λ (g : instance.ActionInstance). g.cost) is.is ∙ schema_costs domain problem is.i is.schema is.declared)),
      )

  steps_to_names : (from action to cost : ℕ) → Steps (strips_space task) from action to cost → Named from action to cost
  steps_to_names from action to cost step =
      let act : Acts task from action to cost = (strips_act task from action to cost).0 step in
      let found = mapped_at (packed_action domain problem count) (kept_actions lifted kept atoms) action act.act act.is in
      step_of from action to cost found.0 act found.2 (is_instance_at lifted kept atoms action found.0 found.1)

  -- ---- a step by names is one by bits

  -- the step by bits of an instance that is applicable
  record IsTaken (from i : ℕ) (schema : Schema) (given : List ℕ) : Type 0 where
    pub action : ℕ
    pub to : ℕ
    pub step : Steps (strips_space task) from action to (cost_at domain problem i)
    pub name : name_in task.actions action ≡ action_text domain (i, named domain problem given)
    pub after : IsAfter atoms from to i schema given

  taken : (from i : ℕ) (schema : Schema) (given : List ℕ) → from < 2 ^ count → slice_get lifted.actions i ≡ Some schema → AreFitting lifted schema.params given
      → is_ready kept schema given ≡ true → list_all (has_atom from) (numbers_of atoms given schema.pre) ≡ true → IsTaken from i schema given
  taken from i schema given small declared fit ready needs =
      let ground : instance.ActionInstance = action_of atoms i schema given in
      let act : GroundAction = packed_action domain problem count ground in
      let place = stands lifted kept atoms i schema given declared (from_fitting lifted schema.params given fit) ready in
      let there : slice_get task.actions place.0 ≡ Some act = at_mapped (packed_action domain problem count) (kept_actions lifted kept atoms) place.0 ground place.1 in
      let to : ℕ = state_after count act from in
      let made = sets_are_of_atoms.0 count (holds_after act from) in
      record {
        action = place.0;
        to = to;
        step = (strips_act task from place.0 to (cost_at domain problem i)).1 (record {
          act = act;
          is = there;
          from_set = small;
          needed = within_all count ground.needs from needs;
          to_set = made.0;
          result = made.1;
          price = sym (schema_costs domain problem i schema declared);
        });
        name = ap name_of there;
        after = λ n less. made.1 n less ∙ packed_after domain problem count ground from n less;
      }

  steps_to_bits : (from : ℕ) (action : NamedAction) (next : State) → from < 2 ^ count → IsStep domain problem (facts from) action.0 action.1 next
      → (number : ℕ) × (to : ℕ) × Steps (strips_space task) from number to (step_cost domain problem action) × (name_in task.actions number ≡ action_text domain action)
      × ((f : Fact) → next f ≡ facts to f)
  steps_to_bits from action next small step =
      let found = steps_are_ground_steps domain problem (holds from) (facts from) next action.0 action.1 none (λ f. refl) step in
      let given : List ℕ = found.0 in
      let by_numbers : IsGroundStep lifted (holds from) action.0 given found.1 = found.3 in
      let schema : Schema = by_numbers.schema in
      let typed : IsTypedInstance lifted schema given = typed_at action.0 schema given by_numbers.declared by_numbers.fits in
      let both =
      and_parts (is_ready kept schema given) (list_all (has_atom from) (numbers_of atoms given schema.pre))
      (sym (acts lifted kept atoms keeping among from action.0 schema given (are_numbered lifted kept atoms among given schema.pre typed.pre)).applicable
      ∙ from_all (atom_holds lifted atoms from) given schema.pre by_numbers.applicable) in
      let is : IsTaken from action.0 schema given = taken from action.0 schema given small by_numbers.declared by_numbers.fits both.0 both.1 in (
        is.action,
        is.to,
        is.step,
        is.name ∙ ap (λ objects. action_text domain (action.0, objects)) (sym found.2),
        λ f. found.4 f
            ∙ ap (λ b. is_of_task domain problem f && b)
            (by_numbers.result (by_number domain problem f)
            ∙ sym (facts_after_are lifted kept atoms keeping among from is.to action.0 schema given by_numbers.declared (from_fitting lifted schema.params given by_numbers.fits) typed both.0
            is.after (by_number domain problem f))),
      )

  -- ---- start and goals

  start_holds : (f : GroundFact) → holds task.start f ≡ ground_start lifted f
  start_holds f = at (is_fluent lifted f.predicate) (number_in (to_atom f) atoms) refl refl ∙ sym (same_member f [] lifted.init)
    where
      at : (fluent : Bool) (number : Option ℕ) → is_fluent lifted f.predicate ≡ fluent → number_in (to_atom f) atoms ≡ number
          → holds task.start f ≡ is_in (to_atom f) (all_grounded [] lifted.init)
      at false number static e = keeps lifted atoms task.start (to_atom f) static
      at true None fluent e =
          fluent_holds lifted atoms task.start (to_atom f) None fluent e
          ∙ sym (absent lifted kept atoms among (to_atom f) [] lifted.init (start_is_typed domain problem none) keeping.closed.starts fluent e)
      at true (Some n) fluent e =
          fluent_holds lifted atoms task.start (to_atom f) (Some n) fluent e
          ∙ (has_number count (numbers_of atoms [] lifted.init) n (number_below (to_atom f) atoms n e) ∙ numbers_alike (to_atom f) atoms n [] lifted.init e)

  start_agrees : (f : Fact) → facts task.start f ≡ start_of problem f
  start_agrees f = ap (λ b. is_of_task domain problem f && b) (start_holds (by_number domain problem f)) ∙ sym (ground_start_is_start domain problem none f)

  goal_holds : (state : ℕ) → list_all (atom_holds lifted atoms state) (all_grounded [] lifted.goal)
      ≡ (list_all kept (all_grounded [] lifted.goal) && list_all (has_atom state) (numbers_of atoms [] lifted.goal))
  goal_holds state = (acts lifted kept atoms keeping among state 0 (goal_schema lifted) [] (are_numbered lifted kept atoms among [] lifted.goal (goal_is_typed domain problem none))).applicable

  goals_to : (state : ℕ) → state < 2 ^ count → IsTrue ((strips_space task).is_goal state) ↔ IsGoal problem (facts state)
  goals_to state small =
      let numbers : List ℕ = numbers_of atoms [] lifted.goal in
      let by_names = ground_goal_is_goal domain problem (holds state) (facts state) none (λ f. refl) in
      let whole = goal_holds state in
      let ready = list_all kept (all_grounded [] lifted.goal) in
      let within = is_within count (numbered_set count numbers) state in (
        λ is. let both = and_parts (not (not ready)) within is in
            by_names.0 (to_all (atom_holds lifted atoms state) [] lifted.goal
            (whole
            ∙ and_from ready (list_all (has_atom state) numbers) (twice_not ready both.0)
            (all_within count numbers state (numbers_below atoms [] lifted.goal) (from_within count (numbered_set count numbers) state both.1)))),
        λ is. let both = and_parts ready (list_all (has_atom state) numbers) (sym whole ∙ from_all (atom_holds lifted atoms state) [] lifted.goal (by_names.1 is)) in
            and_from (not (not ready)) within (not_twice ready both.0) (to_within count (numbered_set count numbers) state (within_all count numbers state both.1)),
      )

  pub steps_are_by_names : StepsAreByNames domain problem task facts
  steps_are_by_names = record { to_names = steps_to_names; to_bits = steps_to_bits; start = start_agrees; goals = goals_to }

-- ---- the cases

pub kept_steps : KeptStepsAreByNames
kept_steps domain problem grounding kept none keeping =
    let lifted : Lifted = lifted_of domain problem in steps_are_by_names domain problem grounding kept (kept_atoms lifted kept) none keeping (kept_among lifted kept)

-- all ground atoms are kept if all are
all_among : (lifted : Lifted) → AreKeptOnes lifted (keep_all lifted) (ground_atoms lifted)
all_among lifted atom = sym (ap (λ atoms. is_in atom atoms) (all_atoms lifted)) ∙ kept_among lifted (keep_all lifted) atom

pub all_steps : (domain : Domain) (problem : Problem) → first_fault domain problem ≡ None → StepsAreByNames domain problem (strips_of domain problem) (facts_of_state domain problem)
all_steps domain problem none =
    let lifted : Lifted = lifted_of domain problem in
    steps_are_by_names domain problem groundings.All (keep_all lifted) (ground_atoms lifted) (accepted domain problem none) (all_atoms_are_a_case lifted).0 (all_among lifted)

pub packed_steps_are_steps : PackedStepsAreSteps
packed_steps_are_steps domain problem from action to cost none step = (all_steps domain problem none).to_names from action to cost step

pub steps_are_packed_steps : StepsArePackedSteps
steps_are_packed_steps domain problem from named next none small step = (all_steps domain problem none).to_bits from named next small step

pub starts_agree : StartsAgree
starts_agree domain problem f none = (all_steps domain problem none).start f

pub goals_agree : GoalsAgree
goals_agree domain problem state none small = (all_steps domain problem none).goals state small

pub all_are_kept : AllAreKept
all_are_kept domain problem = let lifted : Lifted = lifted_of domain problem in ap (strips_by domain problem groundings.All (keep_all lifted)) (all_atoms lifted)
