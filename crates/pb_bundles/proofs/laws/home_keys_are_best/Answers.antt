use Rattle.pb_bundles.proofs.ByRows.{home_keys_are_best}
use Rattle.pb_bundles.proofs.laws.home_keys_are_best.Goals as goal

pub returns : goal.returns
returns c = home_keys_are_best
