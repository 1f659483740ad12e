use Rattle.pb_ground.proofs.Stepping.{kept_correspond}
use Rattle.pb_ground.proofs.laws.kept_steps_correspond.Goals as goal

pub returns : goal.returns
returns c = kept_correspond
