use Rattle.pb_bundles.proofs.ByRows.{moves_turn_back}
use Rattle.pb_bundles.proofs.laws.moves_turn_back.Goals as goal

pub returns : goal.returns
returns c = moves_turn_back
