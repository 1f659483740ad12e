use Rattle.std.proofs.Common.{◌≡◌, ◌*◌, ◌/◌, ◌^◌, ◌≤◌}
use Rattle.pb_packed.specs.Bits.{bits_of}
use Rattle.pb_task.specs.Tiles.{board_of, cell_count}
use Rattle.pb_estimate.specs.Estimates.{ways_home}
use Rattle.pb_estimate.proofs.tiles.distance.Given as goal

abbrev pub invariant-loop-cell : goal.invariant-loop-cell
invariant-loop-cell l = record {
  sum : l.sum ≡ ways_home l.tiles.cols l.tiles.goal (board_of (cell_count l.tiles) l.state) l.cell;
  small : l.sum ≤ 255 * l.cell;
  rest : l.rest ≡ bits_of l.state 0 64 / 2 ^ (4 * l.cell);
}
