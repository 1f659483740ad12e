use Rattle.pb_bundles.proofs.ByRows.{changes_are_apart}
use Rattle.pb_bundles.proofs.laws.changes_are_apart.Goals as goal

pub returns : goal.returns
returns c = changes_are_apart
