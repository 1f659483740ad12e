use Rattle.std.proofs.Common.{◌+◌, ◌≤◌, length}
use Rattle.pb_grid.specs.Lines.{lines_of}
use Rattle.pb_grid.proofs.Chosen.{IsReadTo}
use Rattle.pb_grid.proofs.scenario.chosen_row.Given as goal

abbrev pub invariant-loop-line : goal.invariant-loop-line
invariant-loop-line l = record {
  so_far : IsReadTo (lines_of l.text) l.row l.number l.seen (lines_of l.rest);
  few : l.number + length l.rest ≤ 2 + length l.text;
  seen : l.seen + 2 ≤ l.number;
}

abbrev pub decreases-loop-line : goal.decreases-loop-line
decreases-loop-line l = length l.rest
