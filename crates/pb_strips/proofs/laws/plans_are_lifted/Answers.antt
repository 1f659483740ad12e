use Rattle.pb_strips.proofs.PlansAgree.{packed_plans_are_plans, plans_are_packed_plans}
use Rattle.pb_strips.proofs.laws.plans_are_lifted.Goals as goal

pub returns-clause-packed : goal.returns-clause-packed
returns-clause-packed c = packed_plans_are_plans

pub returns-clause-lifted : goal.returns-clause-lifted
returns-clause-lifted c = plans_are_packed_plans
