-- The task by bits and the task by names are the same: states, steps, their costs and names, the
-- start, goals, and plans. By names a state is a set of facts and an action a schema with objects
-- (`pb_lifted`'s Space); neither numbers of atoms nor bits occur there.
use Rattle.std.specs.Prelude.{◌≡◌, ◌↔◌, ℕ, ◌<◌, ◌^◌, Bool, false, IsTrue, ◌&&◌, if◌then◌else◌, List, map, Option, Some, None}
use Rattle.pb_model.specs.Space.{Steps}
use Rattle.pb_model.specs.Plan as packed
use Rattle.pb_pddl.specs.declared.tree.Domain.{Domain}
use Rattle.pb_pddl.specs.declared.tree.Problem.{Problem}
use Rattle.pb_lifted.specs.declared.lifted.Lifted.{Lifted}
use Rattle.pb_lifted.specs.Lifted.{lifted_of}
use Rattle.pb_lifted.specs.Refusals.{first_refusal}
use Rattle.pb_lifted.specs.Space.{Fact, State, IsStep, start_of, IsGoal}
use Rattle.pb_lifted.specs.Steps.{GroundFact, is_of_task, by_number}
use Rattle.pb_lifted.specs.Plans.{NamedAction, IsPlan, step_cost, plan_cost}
use Rattle.pb_ground.specs.declared.atoms.GroundAtom.{GroundAtom}
use Rattle.pb_ground.specs.Atoms.{is_fluent, atom_of, number_in, ground_atoms, kept_atoms}
use Rattle.pb_ground.specs.Keeping.{IsKeeping}
use Rattle.pb_ground.specs.Statics.{is_initial, keep_all}
use Rattle.pb_ground.specs.Steps.{Facts}
use Rattle.pb_task.specs.declared.grounding.Grounding.{Grounding}
use Rattle.pb_task.specs.declared.grounding.Grounding.TheVariants.{All}
use Rattle.pb_task.specs.declared.parts.StripsParts.{StripsParts}
use Rattle.pb_task.specs.Strips.{has_atom, strips_space, name_in}
use Rattle.pb_strips.specs.Grounding.{strips_of, kept_strips, strips_with}
use Rattle.pb_strips.specs.Names.{action_text}
use Rattle.pb_strips.specs.Refusals.{first_fault, fault_with}

-- ---- the state by names that a packed state represents

abbrev pub holds_by_number : (state : ℕ) → Option ℕ → Bool
holds_by_number state None = false
holds_by_number state (Some atom) = has_atom state atom

-- A fact of a fluent predicate holds if its ground atom is in the set. A fact of a static predicate
-- holds if it does at first.
abbrev pub holds_by : Lifted → (atoms : List GroundAtom) → (state : ℕ) → GroundFact → Bool
holds_by lifted atoms state fact =
    if is_fluent lifted fact.predicate then holds_by_number state
    (number_in (atom_of fact.predicate fact.objects) atoms)
    else is_initial lifted (atom_of fact.predicate fact.objects)

abbrev pub facts_by : Domain → Problem → (atoms : List GroundAtom) → (state : ℕ) → State
facts_by domain problem atoms state fact =
    is_of_task domain problem fact && holds_by (lifted_of domain problem) atoms state
    (by_number domain problem fact)

-- the same if all ground atoms have numbers
abbrev pub facts_of_state : Domain → Problem → (state : ℕ) → State
facts_of_state domain problem state =
    facts_by domain problem (ground_atoms (lifted_of domain problem)) state

-- the same if the kept ground atoms have numbers, and no others
abbrev pub kept_facts : Domain → Problem → (kept : Facts) → (state : ℕ) → State
kept_facts domain problem kept state =
    facts_by domain problem (kept_atoms (lifted_of domain problem) kept) state

-- ---- steps

-- A step by bits is a step by names, at the cost of its action by the trees, under the name that is
-- printed.
abbrev pub PackedStepsAreSteps : Type 0
PackedStepsAreSteps =
    (domain : Domain) (problem : Problem) (from action to cost : ℕ)
    → first_fault domain problem ≡ None → Steps (strips_space (strips_of domain problem)) from
    action to cost
    → (named : NamedAction) × IsStep domain problem (facts_of_state domain problem from) named.0
    named.1 (facts_of_state domain problem to)
    × (name_in (strips_of domain problem).actions action ≡ action_text domain named)
    × (cost ≡ step_cost domain problem named)

-- A step by names is a step by bits, at the cost of its action, under the printed name, and leads
-- to the same state.
abbrev pub StepsArePackedSteps : Type 0
StepsArePackedSteps =
    (domain : Domain) (problem : Problem) (from : ℕ) (named : NamedAction) (next : State)
    → first_fault domain problem ≡ None → from < 2 ^ (strips_of domain problem).atoms
    → IsStep domain problem (facts_of_state domain problem from) named.0 named.1 next
    → (action : ℕ) × (to : ℕ) × Steps (strips_space (strips_of domain problem)) from action to
    (step_cost domain problem named)
    × (name_in (strips_of domain problem).actions action ≡ action_text domain named)
    × ((f : Fact) → next f ≡ facts_of_state domain problem to f)

-- ---- start and goals

-- Both start with the same facts.
abbrev pub StartsAgree : Type 0
StartsAgree =
    (domain : Domain) (problem : Problem) (f : Fact) → first_fault domain problem ≡ None
    → facts_of_state domain problem (strips_of domain problem).start f ≡ start_of problem f

-- A packed state is a goal exactly if the state by names is a goal.
abbrev pub GoalsAgree : Type 0
GoalsAgree =
    (domain : Domain) (problem : Problem) (state : ℕ) → first_fault domain problem ≡ None
    → state < 2 ^ (strips_of domain problem).atoms
    → IsTrue ((strips_space (strips_of domain problem)).is_goal state)
    ↔ IsGoal problem (facts_of_state domain problem state)

-- ---- plans

-- A plan by numbers is a plan by names, whose actions have the names that are printed; it costs the
-- sum of their costs.
abbrev pub PackedPlansArePlans : Type 0
PackedPlansArePlans =
    (domain : Domain) (problem : Problem) (plan : packed.Plan) → first_fault domain problem ≡ None
    → packed.IsPlan (strips_space (strips_of domain problem)) plan
    → (actions : List NamedAction) × IsPlan domain problem actions
    × (map (action_text domain) actions ≡ map (name_in (strips_of domain problem).actions)
    plan.actions)
    × (plan.cost ≡ plan_cost domain problem actions)

-- A plan by names is a plan by numbers, at the same cost.
abbrev pub PlansArePackedPlans : Type 0
PlansArePackedPlans =
    (domain : Domain) (problem : Problem) (actions : List NamedAction)
    → first_fault domain problem ≡ None → IsPlan domain problem actions
    → (numbers : List ℕ) × packed.IsPlan (strips_space (strips_of domain problem))
    (record { actions = numbers; cost = plan_cost domain problem actions })
    × (map (name_in (strips_of domain problem).actions) numbers ≡ map (action_text domain) actions)

-- ---- the same, whichever atoms are kept

-- The steps of a task by bits are those by names, if its states represent these states by names.
pub record StepsAreByNames (domain : Domain) (problem : Problem) (task : StripsParts)
    (facts : (state : ℕ) → State) : Type 0 where
  -- a step by bits is a step by names
  pub to_names : (from action to cost : ℕ) → Steps (strips_space task) from action to cost
      → (named : NamedAction) × IsStep domain problem (facts from) named.0 named.1 (facts to)
      × (name_in task.actions action ≡ action_text domain named)
      × (cost ≡ step_cost domain problem named)
  -- a step by names is a step by bits
  pub to_bits : (from : ℕ) (named : NamedAction) (next : State) → from < 2 ^ task.atoms
      → IsStep domain problem (facts from) named.0 named.1 next
      → (action : ℕ) × (to : ℕ) × Steps (strips_space task) from action to
      (step_cost domain problem named)
      × (name_in task.actions action ≡ action_text domain named)
      × ((f : Fact) → next f ≡ facts to f)
  -- both start with the same facts
  pub start : (f : Fact) → facts task.start f ≡ start_of problem f
  -- a state by bits is a goal exactly if the state by names is one
  pub goals : (state : ℕ) → state < 2 ^ task.atoms
      → IsTrue ((strips_space task).is_goal state) ↔ IsGoal problem (facts state)

-- The plans of a task by bits are those by names.
pub record PlansAreByNames (domain : Domain) (problem : Problem) (task : StripsParts) : Type 0 where
  -- a plan by bits is a plan by names, at the same cost
  pub to_names : (plan : packed.Plan) → packed.IsPlan (strips_space task) plan
      → (actions : List NamedAction) × IsPlan domain problem actions
      × (map (action_text domain) actions ≡ map (name_in task.actions) plan.actions)
      × (plan.cost ≡ plan_cost domain problem actions)
  -- a plan by names is a plan by bits, at the same cost
  pub to_bits : (actions : List NamedAction) → IsPlan domain problem actions
      → (numbers : List ℕ) × packed.IsPlan (strips_space task)
      (record { actions = numbers; cost = plan_cost domain problem actions })
      × (map (name_in task.actions) numbers ≡ map (action_text domain) actions)

-- If nothing is refused, the steps of the task of kept atoms are those by names. Any closed set may
-- be kept that has a static atom if and only if it holds at first.
abbrev pub KeptStepsAreByNames : Type 0
KeptStepsAreByNames =
    (domain : Domain) (problem : Problem) (grounding : Grounding) (kept : Facts)
    → first_refusal domain problem ≡ None → IsKeeping (lifted_of domain problem) kept
    → StepsAreByNames domain problem (kept_strips domain problem grounding kept)
    (kept_facts domain problem kept)

-- And so are its plans.
abbrev pub KeptPlansAreByNames : Type 0
KeptPlansAreByNames =
    (domain : Domain) (problem : Problem) (grounding : Grounding) (kept : Facts)
    → first_refusal domain problem ≡ None → IsKeeping (lifted_of domain problem) kept
    → PlansAreByNames domain problem (kept_strips domain problem grounding kept)

-- If all atoms are kept, this is the task in which all ground atoms have numbers.
abbrev pub AllAreKept : Type 0
AllAreKept =
    (domain : Domain) (problem : Problem)
    → kept_strips domain problem All (keep_all (lifted_of domain problem)) ≡ strips_of domain problem

-- ---- the same of each grounding

-- If nothing is at fault, the plans of the task are those by names.
abbrev pub GroundedPlansAreByNames : Type 0
GroundedPlansAreByNames =
    (grounding : Grounding) (domain : Domain) (problem : Problem)
    → fault_with grounding domain problem ≡ None
    → PlansAreByNames domain problem (strips_with grounding domain problem)
