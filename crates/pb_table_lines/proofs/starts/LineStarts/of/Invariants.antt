use Rattle.std.proofs.Common.{◌≡◌, ℕ, ◌<◌, ◌≤◌, ◌+◌, ◌*◌, ◌^◌, length, get_or}
use Rattle.pb_table_lines.specs.Lines.{lines_before}
use Rattle.pb_table_lines.proofs.starts.LineStarts.of.Given as goal

abbrev pub invariant-loop-list : goal.invariant-loop-list
invariant-loop-list l = record {
  long : length l.starts.items ≡ l.list;
  each : (list : ℕ) → list < l.list → get_or l.starts.items list 0 ≡ lines_before l.tables list;
  at_is : l.at ≡ lines_before l.tables l.list;
  small : l.at ≤ 1 + l.list * 2 ^ 63;
}
