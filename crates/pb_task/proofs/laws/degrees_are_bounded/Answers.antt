use Rattle.pb_task.proofs.Degrees.{degrees_are_bounded}
use Rattle.pb_task.proofs.laws.degrees_are_bounded.Goals as goal

pub returns : goal.returns
returns c = degrees_are_bounded
