use Rattle.std.proofs.Common.{◌≡◌, ◌+◌, [], take, drop}
use Rattle.pb_tiles.specs.Reading.{board_fault}
use Rattle.pb_tiles.proofs.boards.board_fault.Given as goal

abbrev pub invariant-loop-at : goal.invariant-loop-at
invariant-loop-at l = board_fault l.count (l.first + l.at) (take l.at l.board) (drop l.at l.board) ≡ board_fault l.count l.first [] l.board
