use Rattle.pb_lifted.proofs.SamePlans.{ground_plans_are_plans, plans_are_ground_plans}
use Rattle.pb_lifted.proofs.laws.numbers_keep_plans.Goals as goal

pub returns-clause-by_names : goal.returns-clause-by_names
returns-clause-by_names c = ground_plans_are_plans

pub returns-clause-by_numbers : goal.returns-clause-by_numbers
returns-clause-by_numbers c = plans_are_ground_plans
