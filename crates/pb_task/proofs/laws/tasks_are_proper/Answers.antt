use Rattle.pb_task.proofs.Grids.{tasks_are_proper}
use Rattle.pb_task.proofs.laws.tasks_are_proper.Goals as goal

pub returns : goal.returns
returns c = tasks_are_proper
