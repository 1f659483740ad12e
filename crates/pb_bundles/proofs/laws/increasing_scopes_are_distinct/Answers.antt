use Rattle.pb_bundles.proofs.Distinct.{increasing_scopes_are_distinct}
use Rattle.pb_bundles.proofs.laws.increasing_scopes_are_distinct.Goals as goal

pub returns : goal.returns
returns c = increasing_scopes_are_distinct
