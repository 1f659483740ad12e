-- The facts of the instances of a task are of the types of their predicates.
use Rattle.std.specs.Prelude.{◌≡◌, ℕ, List, [], Some, None, All}
use Rattle.std.specs.List.{slice_get}
use Rattle.pb_pddl.specs.declared.tree.Domain.{Domain}
use Rattle.pb_pddl.specs.declared.tree.Problem.{Problem}
use Rattle.pb_lifted.specs.declared.lifted.Schema.{Schema}
use Rattle.pb_lifted.specs.declared.lifted.Lifted.{Lifted}
use Rattle.pb_lifted.specs.Lifted.{lifted_of}
use Rattle.pb_lifted.specs.Refusals.{first_refusal}
use Rattle.pb_lifted.specs.Steps.{GroundFact, AreFitting, ground_all}

-- a declared predicate, with an object for each of its parameters, of the parameter's type or of
-- one below
pub record IsTyped (lifted : Lifted) (f : GroundFact) : Type 0 where
  pub kinds : List ℕ
  pub declared : slice_get lifted.predicates f.predicate ≡ Some kinds
  pub fits : AreFitting lifted kinds f.objects

pub record IsTypedInstance (lifted : Lifted) (schema : Schema) (given : List ℕ) : Type 0 where
  pub pre : All (IsTyped lifted) (ground_all given schema.pre)
  pub adds : All (IsTyped lifted) (ground_all given schema.adds)
  pub deletes : All (IsTyped lifted) (ground_all given schema.deletes)

-- What an action's instance needs, adds and deletes is of its predicates' types.
abbrev pub InstancesAreTyped : Type 0
InstancesAreTyped =
    (domain : Domain) (problem : Problem) (i : ℕ) (schema : Schema) (given : List ℕ)
    → first_refusal domain problem ≡ None
    → slice_get (lifted_of domain problem).actions i ≡ Some schema
    → AreFitting (lifted_of domain problem) schema.params given
    → IsTypedInstance (lifted_of domain problem) schema given

-- The facts that hold at first are of their predicates' types, and so are those of the goal.
abbrev pub StartIsTyped : Type 0
StartIsTyped =
    (domain : Domain) (problem : Problem) → first_refusal domain problem ≡ None
    → All (IsTyped (lifted_of domain problem)) (ground_all [] (lifted_of domain problem).init)

abbrev pub GoalIsTyped : Type 0
GoalIsTyped =
    (domain : Domain) (problem : Problem) → first_refusal domain problem ≡ None
    → All (IsTyped (lifted_of domain problem)) (ground_all [] (lifted_of domain problem).goal)
