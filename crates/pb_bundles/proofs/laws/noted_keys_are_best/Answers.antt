use Rattle.pb_bundles.proofs.ByRows.{noted_keys_are_best}
use Rattle.pb_bundles.proofs.laws.noted_keys_are_best.Goals as goal

pub returns : goal.returns
returns c = noted_keys_are_best
