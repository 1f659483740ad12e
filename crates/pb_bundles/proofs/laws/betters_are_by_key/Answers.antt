use Rattle.pb_bundles.proofs.ByKey.{betters_are_by_key}
use Rattle.pb_bundles.proofs.laws.betters_are_by_key.Goals as goal

pub returns : goal.returns
returns c = betters_are_by_key
