use Rattle.pb_lifted.proofs.GroundSteps.{ground_steps_are_steps, steps_are_ground_steps, ground_start_is_start, ground_goal_is_goal}
use Rattle.pb_lifted.proofs.laws.numbers_keep_steps.Goals as goal

pub returns-clause-by_names : goal.returns-clause-by_names
returns-clause-by_names c = ground_steps_are_steps

pub returns-clause-by_numbers : goal.returns-clause-by_numbers
returns-clause-by_numbers c = steps_are_ground_steps

pub returns-clause-start : goal.returns-clause-start
returns-clause-start c = ground_start_is_start

pub returns-clause-goal : goal.returns-clause-goal
returns-clause-goal c = ground_goal_is_goal
