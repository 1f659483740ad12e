use Rattle.pb_bundles.proofs.ByRows.{taken_rows_are_restricted}
use Rattle.pb_bundles.proofs.laws.taken_rows_are_restricted.Goals as goal

pub returns : goal.returns
returns c = taken_rows_are_restricted
