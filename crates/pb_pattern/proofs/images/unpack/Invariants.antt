use Rattle.std.proofs.Common.{◌≡◌, ◌-◌, ◌++◌, take, length}
use Rattle.pb_task.specs.Tiles.{board_of}
use Rattle.pb_pattern.proofs.images.unpack.Given as goal

abbrev pub invariant-loop-cell : goal.invariant-loop-cell
invariant-loop-cell l = record {
  long : length l.cells ≡ 16;
  read : take l.cell l.cells ++ board_of (l.count - l.cell) l.rest ≡ board_of l.count l.word;
}
