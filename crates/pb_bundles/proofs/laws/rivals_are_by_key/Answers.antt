use Rattle.pb_bundles.proofs.ByKey.{rivals_are_by_key}
use Rattle.pb_bundles.proofs.laws.rivals_are_by_key.Goals as goal

pub returns : goal.returns
returns c = rivals_are_by_key
