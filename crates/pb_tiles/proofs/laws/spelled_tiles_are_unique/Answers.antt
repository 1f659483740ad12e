use Rattle.pb_tiles.proofs.Spelled.{spelled_tiles_are_unique}
use Rattle.pb_tiles.proofs.laws.spelled_tiles_are_unique.Goals as goal

pub returns : goal.returns
returns c = spelled_tiles_are_unique
