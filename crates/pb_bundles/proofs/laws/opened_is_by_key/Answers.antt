use Rattle.pb_bundles.proofs.ByKey.{opened_is_by_key}
use Rattle.pb_bundles.proofs.laws.opened_is_by_key.Goals as goal

pub returns : goal.returns
returns c = opened_is_by_key
