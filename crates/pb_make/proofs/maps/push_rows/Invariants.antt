use Rattle.std.proofs.Common.{◌≡◌, ◌*◌, ◌++◌, length, ◌-◌}
use Rattle.pb_make.specs.Lines.{lines, rows_of}
use Rattle.pb_make.proofs.maps.push_rows.Given as goal

abbrev pub invariant-loop-row : goal.invariant-loop-row
invariant-loop-row l = record {
  left : length l.rest ≡ (l.rows - l._row) * l.width;
  text : l.text.items ++ lines (rows_of (l.rows - l._row) l.width l.rest) ≡ l.fn.text.items ++ lines (rows_of l.rows l.width l.cells);
}
