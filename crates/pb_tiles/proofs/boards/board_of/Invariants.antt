use Rattle.std.proofs.Common.{◌≡◌, take}
use Rattle.pb_tiles.proofs.boards.board_of.Given as goal

abbrev pub invariant-loop-number : goal.invariant-loop-number
invariant-loop-number l = l.cells.items ≡ take l.number-index l.numbers
