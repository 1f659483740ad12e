use Rattle.pb_bundles.proofs.ByRows.{moves_take_rows}
use Rattle.pb_bundles.proofs.laws.moves_take_rows.Goals as goal

pub returns : goal.returns
returns c = moves_take_rows
