use Rattle.pb_tiles.proofs.Spelled.{readings_are_spelled}
use Rattle.pb_tiles.proofs.laws.readings_are_spelled.Goals as goal

pub returns : goal.returns
returns c = readings_are_spelled
