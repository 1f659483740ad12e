use Rattle.pb_bundles.proofs.ByRows.{away_rows_are_of_blocks}
use Rattle.pb_bundles.proofs.laws.away_rows_are_of_blocks.Goals as goal

pub returns : goal.returns
returns c = away_rows_are_of_blocks
