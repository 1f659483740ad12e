use Rattle.std.proofs.Common.{◌≡◌, ◌+◌, ◌≤◌, drop, length}
use Rattle.std.specs.Vec.{vec_len, vec_capacity}
use Rattle.pb_grid.specs.Reading.{added_to, cells_of}
use Rattle.pb_grid.proofs.map.add_cells.Given as goal

abbrev pub invariant-loop-byte : goal.invariant-loop-byte
invariant-loop-byte l = record {
  column : l.col ≡ l.byte-index + 1;
  room : vec_len l.fn.cells + length l.row ≤ vec_capacity l.cells;
  count : vec_len l.cells ≡ vec_len l.fn.cells + l.byte-index;
  so_far : added_to l.cells.items (cells_of l.line (l.byte-index + 1) (drop l.byte-index l.row)) ≡ added_to l.fn.cells.items (cells_of l.line 1 l.row);
}
