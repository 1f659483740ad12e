use Rattle.pb_ground.proofs.Stepping.{correspond}
use Rattle.pb_ground.proofs.laws.steps_correspond.Goals as goal

pub returns : goal.returns
returns c = correspond
