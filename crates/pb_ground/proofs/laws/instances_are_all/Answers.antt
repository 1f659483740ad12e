use Rattle.pb_ground.proofs.Membership.{instances_are}
use Rattle.pb_ground.proofs.laws.instances_are_all.Goals as goal

pub returns : goal.returns
returns c lifted kinds objects = instances_are lifted kinds objects
