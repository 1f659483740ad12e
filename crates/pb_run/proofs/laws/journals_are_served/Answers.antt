use Rattle.pb_run.proofs.Rooms.{journals_are_served}
use Rattle.pb_run.proofs.laws.journals_are_served.Goals as goal

pub returns : goal.returns
returns c = journals_are_served
