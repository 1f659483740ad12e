use Rattle.pb_lists.proofs.Entries.{entries_are_rows}
use Rattle.pb_lists.proofs.laws.entries_are_rows.Goals as goal

pub returns : goal.returns
returns c = entries_are_rows
