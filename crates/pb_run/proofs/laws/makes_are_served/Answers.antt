use Rattle.pb_run.proofs.MadeRooms.{makes_are_served}
use Rattle.pb_run.proofs.laws.makes_are_served.Goals as goal

pub returns : goal.returns
returns c = makes_are_served c.read_as_spelled.ensures
