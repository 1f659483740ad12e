use Rattle.std.proofs.Common.{◌≡◌, ◌≤◌, ◌+◌, ◌*◌, ◌^◌}
use Rattle.pb_table_lines.specs.Lines.{lines_before}
use Rattle.pb_table_lines.proofs.listing.lines_before.Given as goal

abbrev pub invariant-loop-number : goal.invariant-loop-number
invariant-loop-number l = record {
  lines_are : l.lines ≡ lines_before l.tables l.number;
  small : l.lines ≤ 1 + l.number * 2 ^ 63;
}
