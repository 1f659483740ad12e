use Rattle.pb_task.proofs.Grids.{grids_are_proper}
use Rattle.pb_task.proofs.laws.grids_are_proper.Goals as goal

pub returns : goal.returns
returns c = grids_are_proper
