use Rattle.std.proofs.Common.{◌≡◌, ℕ, ◌<◌, ◌*◌, ◌/◌, ◌^◌, length, get_or}
use Rattle.pb_task.specs.Tiles.{board_of}
use Rattle.pb_abstract.proofs.tiles.cells_of.Given as goal

abbrev pub invariant-loop-cell : goal.invariant-loop-cell
invariant-loop-cell l = record {
  long : length l.cells ≡ 16;
  rest : l.rest ≡ l.board / 2 ^ (4 * l.cell);
  known : (k : ℕ) → k < l.cell → get_or l.cells (get_or (board_of l.count l.board) k 0) 0 ≡ k;
}
