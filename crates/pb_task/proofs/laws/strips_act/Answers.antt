use Rattle.pb_task.proofs.Acting.{strips_act}
use Rattle.pb_task.proofs.laws.strips_act.Goals as goal

pub returns : goal.returns
returns c = strips_act
