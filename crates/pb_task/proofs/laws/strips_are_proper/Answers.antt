use Rattle.pb_task.proofs.Acting.{strips_are_proper}
use Rattle.pb_task.proofs.laws.strips_are_proper.Goals as goal

pub returns : goal.returns
returns c = strips_are_proper
