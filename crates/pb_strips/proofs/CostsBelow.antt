-- Each ground action costs what its action costs by the trees, which is 1 to 2^20.
use Rattle.std.proofs.Common.{◌≡◌, ◌≤◌, ◌^◌, ℕ, List, All, Some, None, slice_get, sym, ap, ◌∙◌, subst}
use Rattle.std.proofs.lemmas.List.Elements.{All-weaker}
use Rattle.pb_pddl.specs.declared.tree.Domain.{Domain}
use Rattle.pb_pddl.specs.declared.tree.Problem.{Problem}
use Rattle.pb_lifted.specs.declared.lifted.Schema.{Schema}
use Rattle.pb_lifted.specs.Costs.{cost_at}
use Rattle.pb_lifted.specs.Lifted.{lifted_of}
use Rattle.pb_lifted.specs.Refusals.{first_refusal}
use Rattle.pb_lifted.specs.Steps.{cost_of_schema}
use Rattle.pb_lifted.proofs.Callers.{mapped_at, schema_in, schemas_cost_the_same, costs_are_in_range}
use Rattle.pb_ground.specs.declared.actions.ActionInstance.{ActionInstance}
use Rattle.pb_ground.specs.declared.atoms.GroundAtom.{GroundAtom}
use Rattle.pb_ground.specs.Actions.{kept_actions}
use Rattle.pb_ground.specs.Steps.{Facts}
use Rattle.pb_strips.proofs.Instances.{IsInstance, are_instances}

-- a schema costs what its action costs
pub schema_costs : (domain : Domain) (problem : Problem) (i : ℕ) (schema : Schema) → slice_get (lifted_of domain problem).actions i ≡ Some schema → schema.cost ≡ cost_at domain problem i
schema_costs domain problem i schema declared = sym (ap cost_of_schema declared) ∙ schemas_cost_the_same domain problem i

abbrev pub IsInRange : ActionInstance → Type 0
IsInRange action = (1 ≤ action.cost) × (action.cost ≤ 2 ^ 20)

instance_in_range : (domain : Domain) (problem : Problem) → first_refusal domain problem ≡ None → (kept : Facts) (atoms : List GroundAtom) (action : ActionInstance)
    → IsInstance (lifted_of domain problem) kept atoms action
    → IsInRange action
instance_in_range domain problem accepted kept atoms action is =
    let found = mapped_at (schema_in domain problem) domain.actions is.i is.schema is.declared in
    let same : cost_at domain problem is.i ≡ action.cost = sym (ap (λ (a : ActionInstance). a.cost) is.is ∙ schema_costs domain problem is.i is.schema is.declared) in
    subst (λ n. (1 ≤ n) × (n ≤ 2 ^ 20)) same (costs_are_in_range domain problem is.i found.0 accepted found.1)

pub actions_in_range : (domain : Domain) (problem : Problem) → first_refusal domain problem ≡ None → (kept : Facts) (atoms : List GroundAtom)
    → All IsInRange (kept_actions (lifted_of domain problem) kept atoms)
actions_in_range domain problem accepted kept atoms =
    All-weaker (IsInstance (lifted_of domain problem) kept atoms) IsInRange (instance_in_range domain problem accepted kept atoms) (kept_actions (lifted_of domain problem) kept atoms)
    (are_instances (lifted_of domain problem) kept atoms)
