use Rattle.pb_lifted.proofs.TypedInstances.{instances_are_typed, start_is_typed, goal_is_typed}
use Rattle.pb_lifted.proofs.laws.instances_are_typed.Goals as goal

pub returns-clause-actions : goal.returns-clause-actions
returns-clause-actions c = instances_are_typed

pub returns-clause-start : goal.returns-clause-start
returns-clause-start c = start_is_typed

pub returns-clause-goal : goal.returns-clause-goal
returns-clause-goal c = goal_is_typed
