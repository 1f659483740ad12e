-- The table of a bundle's rows. It is narrow at first: states and parents of one word each, and
-- narrow rows. It becomes wider when a state or a row comes that it has no place for.
use Rattle.std.specs.Prelude.{◌≡◌, ◌≤◌, ◌*◌, ◌^◌, ℕ, Option, Some, None, List, nat_eq}
use Rattle.pb_model.specs.declared.row.Row.{Row}
use Rattle.pb_lists.specs.Bundle.{row_in}
use Rattle.pb_lists.specs.NarrowRow.{FitsWords, IsNarrow}
use Rattle.pb_lists.specs.ListedRows.{ListedRows}
use Rattle.pb_lists.specs.declared.wide_rows.WideRows.{WideRows}
use Rattle.pb_lists.specs.declared.wide_rows.WideRows.TheVariants.{Few, Many, Any}
use Rattle.pb_lists.specs.declared.rows.Table.{Table}
use Rattle.pb_lists.specs.declared.rows.Table.TheVariants.{Small, Wide}

abbrev pub wide_of : WideRows → ListedRows
wide_of (Few rows) = record rows { width = Some 4 }
wide_of (Many rows) = record rows { width = Some 16 }
wide_of (Any rows) = record rows { width = None }

abbrev pub listed_of : Table → ListedRows
listed_of (Small rows) = record rows { width = Some 1 }
listed_of (Wide rows) = wide_of rows
