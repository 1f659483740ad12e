use Rattle.pb_bundles.proofs.ByRows.{keys_at_home_are_best}
use Rattle.pb_bundles.proofs.laws.keys_at_home_are_best.Goals as goal

pub returns : goal.returns
returns c = keys_at_home_are_best
