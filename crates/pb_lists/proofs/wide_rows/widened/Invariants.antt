use Rattle.std.proofs.Common.{◌≡◌, ◌++◌, drop}
use Rattle.pb_lists.specs.ListedRows.{HasPlaceFor, IsAtLeast}
use Rattle.pb_lists.specs.Rows.{wide_of}
use Rattle.pb_lists.proofs.wide_rows.widened.Given as goal

abbrev pub invariant-entries : goal.invariant-entries
invariant-entries g l = record {
  entries : (wide_of l.wide).entries ++ drop l.i l.rows.entries ≡ l.rows.entries;
  width : (wide_of l.wide).width ≡ (wide_of l.initial.wide).width;
}
