use Rattle.pb_estimate.proofs.Totals.{estimates_count_tiles}
use Rattle.pb_estimate.proofs.laws.estimates_count_tiles.Goals as goal

pub returns : goal.returns
returns c = estimates_count_tiles
