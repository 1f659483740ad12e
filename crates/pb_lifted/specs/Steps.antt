-- A lifted task as a state space, by numbers, and that it is the state space by names.
use Rattle.std.specs.Prelude.{◌≡◌, ◌<◌, ◌≤◌, ◌^◌, ◌↔◌, ℕ, Bool, true, not, ◌&&◌, ◌||◌, nat_eq, List, [], ◌∷◌, length, map, Option, Some, None, slice_index}
use Rattle.std.specs.List.{list_any, list_all, slice_get}
use Rattle.std.specs.Cmp.Lexicographic.{pointwise}
use Rattle.pb_pddl.specs.declared.tree.Action.{Action}
use Rattle.pb_pddl.specs.declared.tree.Domain.{Domain}
use Rattle.pb_pddl.specs.declared.tree.Problem.{Problem}
use Rattle.pb_lifted.specs.declared.lifted.LiftedAtom.{LiftedAtom}
use Rattle.pb_lifted.specs.declared.lifted.Schema.{Schema}
use Rattle.pb_lifted.specs.declared.lifted.Lifted.{Lifted}
use Rattle.pb_lifted.specs.Names.{is_among}
use Rattle.pb_lifted.specs.Tree.{comes_to}
use Rattle.pb_lifted.specs.Costs.{cost_at}
use Rattle.pb_lifted.specs.Lifted.{number, lifted_of}
use Rattle.pb_lifted.specs.Refusals.{first_refusal}
use Rattle.pb_lifted.specs.Facts.{value_of}
use Rattle.pb_lifted.specs.Space.{Fact, State, IsStep, start_of, IsGoal}
use Rattle.pb_lifted.specs.Typing.{object_names, predicate_names, named}

-- ---- by numbers

-- a predicate of objects
pub record GroundFact : Type 0 where
  pub predicate : ℕ
  pub objects : List ℕ

abbrev pub same_ground : GroundFact → GroundFact → Bool
same_ground f g = nat_eq f.predicate g.predicate && pointwise nat_eq f.objects g.objects

abbrev pub is_ground_in : GroundFact → List GroundFact → Bool
is_ground_in f facts = list_any (same_ground f) facts

-- which facts hold
abbrev pub GroundState : Type 0
GroundState = GroundFact → Bool

-- what an atom of a schema means, if these objects are given to the parameters
abbrev pub ground : List ℕ → LiftedAtom → GroundFact
ground given atom =
    record { predicate = atom.predicate; objects = map (λ a. value_of given a) atom.arguments }

abbrev pub ground_all : List ℕ → List LiftedAtom → List GroundFact
ground_all given atoms = map (λ a. ground given a) atoms

abbrev pub AllGroundHold : GroundState → List GroundFact → Type 0
AllGroundHold state [] = Unit {0}
AllGroundHold state (f ∷ facts) = (state f ≡ true) × AllGroundHold state facts

-- an object of a type, or of a type below it
abbrev pub FitsKind : Lifted → ℕ → ℕ → Type 0
FitsKind lifted kind i =
    (i < length lifted.objects)
    × (comes_to lifted.types (length lifted.types) (slice_index lifted.objects i) kind ≡ true)

-- to each parameter such an object
abbrev pub AreFitting : Lifted → List ℕ → List ℕ → Type 0
AreFitting lifted [] [] = Unit {0}
AreFitting lifted [] (i ∷ given) = ⊥
AreFitting lifted (kind ∷ kinds) [] = ⊥
AreFitting lifted (kind ∷ kinds) (i ∷ given) =
    FitsKind lifted kind i × AreFitting lifted kinds given

-- the state less the deleted facts, with the added facts: a fact that is deleted and added holds
abbrev pub ground_after : GroundState → List GroundFact → List GroundFact → GroundState
ground_after state gone come f = is_ground_in f come || state f && not (is_ground_in f gone)

-- schema i, with these objects, leads from a state to the next
pub record IsGroundStep (lifted : Lifted) (state : GroundState) (i : ℕ) (given : List ℕ)
    (next : GroundState) : Type 0 where
  pub schema : Schema
  pub declared : slice_get lifted.actions i ≡ Some schema
  pub fits : AreFitting lifted schema.params given
  pub applicable : AllGroundHold state (ground_all given schema.pre)
  pub result : (f : GroundFact) → next f ≡ ground_after state (ground_all given schema.deletes)
      (ground_all given schema.adds) f

-- what schema i costs; there is none after the last, and it costs nothing
abbrev pub cost_of_schema : Option Schema → ℕ
cost_of_schema None = 0
cost_of_schema (Some schema) = schema.cost

abbrev pub ground_cost : Lifted → ℕ → ℕ
ground_cost lifted i = cost_of_schema (slice_get lifted.actions i)

abbrev pub ground_start : Lifted → GroundState
ground_start lifted f = is_ground_in f (ground_all [] lifted.init)

abbrev pub IsGroundGoal : Lifted → GroundState → Type 0
IsGroundGoal lifted state = AllGroundHold state (ground_all [] lifted.goal)

-- ---- by numbers and by names

-- a fact of a declared predicate and of objects that are there
abbrev pub is_of_task : Domain → Problem → Fact → Bool
is_of_task domain problem f =
    is_among f.predicate (predicate_names domain) && list_all
    (λ o. is_among o (object_names domain problem)) f.objects

abbrev pub by_number : Domain → Problem → Fact → GroundFact
by_number domain problem f =
    record {
      predicate = number f.predicate (predicate_names domain);
      objects = map (λ o. number o (object_names domain problem)) f.objects;
    }

-- The same facts hold, and no others.
abbrev pub IsSameState : Domain → Problem → GroundState → State → Type 0
IsSameState domain problem ground_state state =
    (f : Fact) → state f ≡ (is_of_task domain problem f
    && ground_state (by_number domain problem f))

-- A step by numbers is one by names.
abbrev pub GroundStepsAreSteps : Type 0
GroundStepsAreSteps =
    (domain : Domain) (problem : Problem) (now after : GroundState) (state next : State) (i : ℕ)
    (given : List ℕ) → first_refusal domain problem ≡ None
    → IsSameState domain problem now state → IsGroundStep (lifted_of domain problem) now i given
    after → IsSameState domain problem after next
    → IsStep domain problem state i (named domain problem given) next

-- A step by names is one by numbers.
abbrev pub StepsAreGroundSteps : Type 0
StepsAreGroundSteps =
    (domain : Domain) (problem : Problem) (now : GroundState) (state next : State) (i : ℕ)
    (objects : List (List ℕ)) → first_refusal domain problem ≡ None
    → IsSameState domain problem now state → IsStep domain problem state i objects next
    → (given : List ℕ) × (after : GroundState) × (objects ≡ named domain problem given)
    × IsGroundStep (lifted_of domain problem) now i given after
    × IsSameState domain problem after next

-- Both begin with the same facts.
abbrev pub GroundStartIsStart : Type 0
GroundStartIsStart =
    (domain : Domain) (problem : Problem) → first_refusal domain problem ≡ None
    → IsSameState domain problem (ground_start (lifted_of domain problem)) (start_of problem)

-- The goal holds by numbers exactly if it holds by names.
abbrev pub GroundGoalIsGoal : Type 0
GroundGoalIsGoal =
    (domain : Domain) (problem : Problem) (now : GroundState) (state : State)
    → first_refusal domain problem ≡ None → IsSameState domain problem now state
    → IsGroundGoal (lifted_of domain problem) now ↔ IsGoal problem state

-- A schema costs what its action costs.
abbrev pub SchemasCostTheSame : Type 0
SchemasCostTheSame =
    (domain : Domain) (problem : Problem) (i : ℕ) → ground_cost (lifted_of domain problem) i
    ≡ cost_at domain problem i

-- If nothing is refused, each action of the domain costs 1 to 2^20.
abbrev pub CostsAreInRange : Type 0
CostsAreInRange =
    (domain : Domain) (problem : Problem) (i : ℕ) (action : Action)
    → first_refusal domain problem ≡ None → slice_get domain.actions i ≡ Some action
    → (1 ≤ cost_at domain problem i) × (cost_at domain problem i ≤ 2 ^ 20)
