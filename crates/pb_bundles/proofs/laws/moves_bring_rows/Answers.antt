use Rattle.pb_bundles.proofs.ByRows.{moves_bring_rows}
use Rattle.pb_bundles.proofs.laws.moves_bring_rows.Goals as goal

pub returns : goal.returns
returns c = moves_bring_rows
