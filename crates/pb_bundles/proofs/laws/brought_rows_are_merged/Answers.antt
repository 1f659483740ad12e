use Rattle.pb_bundles.proofs.ByRows.{brought_rows_are_merged}
use Rattle.pb_bundles.proofs.laws.brought_rows_are_merged.Goals as goal

pub returns : goal.returns
returns c = brought_rows_are_merged
