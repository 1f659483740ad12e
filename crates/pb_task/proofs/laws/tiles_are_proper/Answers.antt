use Rattle.pb_task.proofs.Sliding.{tiles_are_proper}
use Rattle.pb_task.proofs.laws.tiles_are_proper.Goals as goal

pub returns : goal.returns
returns c = tiles_are_proper
