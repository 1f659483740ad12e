use Rattle.pb_strips.proofs.Groundings.{grounded_plans, names_tell_actions_with}
use Rattle.pb_strips.proofs.laws.groundings_are_by_names.Goals as goal

pub returns-clause-plans : goal.returns-clause-plans
returns-clause-plans c = grounded_plans

pub returns-clause-names : goal.returns-clause-names
returns-clause-names c = names_tell_actions_with
