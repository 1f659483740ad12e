use Rattle.pb_lifted.proofs.SameCosts.{schemas_cost_the_same, ground_plans_cost_the_same, costs_are_in_range}
use Rattle.pb_lifted.proofs.laws.numbers_keep_costs.Goals as goal

pub returns-clause-schemas : goal.returns-clause-schemas
returns-clause-schemas c = schemas_cost_the_same

pub returns-clause-plans : goal.returns-clause-plans
returns-clause-plans c = ground_plans_cost_the_same

pub returns-clause-range : goal.returns-clause-range
returns-clause-range c = costs_are_in_range
