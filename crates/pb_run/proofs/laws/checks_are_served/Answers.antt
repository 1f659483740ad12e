use Rattle.pb_run.proofs.Rooms.{checks_are_served}
use Rattle.pb_run.proofs.laws.checks_are_served.Goals as goal

pub returns : goal.returns
returns c = checks_are_served c.bounds_are_least.ensures
