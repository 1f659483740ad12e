use Rattle.std.proofs.Common.{◌≡◌, ◌+◌, ◌≤◌, length}
use Rattle.pb_grid.specs.Lines.{lines_of}
use Rattle.pb_grid.specs.Reading.{below_map}
use Rattle.pb_grid.proofs.map.below_map.Given as goal

abbrev pub invariant-loop-below : goal.invariant-loop-below
invariant-loop-below l = record {
  so_far : below_map l.line (lines_of l.rest) ≡ below_map l.first (lines_of l.text);
  few : l.line + length l.rest ≤ l.first + length l.text;
}

abbrev pub decreases-loop-below : goal.decreases-loop-below
decreases-loop-below l = length l.rest
