use Rattle.pb_ground.proofs.Stepping.{kept}
use Rattle.pb_ground.proofs.laws.statics_are_kept.Goals as goal

pub returns : goal.returns
returns c lifted state i schema given declared keeps = kept lifted state i schema given declared keeps
