use Rattle.std.proofs.Common.{◌≡◌, ◌==◌, drop}
use Rattle.pb_task.specs.Tiles.{board_state}
use Rattle.pb_task.proofs.tiles.has_numbers.Given as goal

abbrev pub invariant-loop-cell : goal.invariant-loop-cell
invariant-loop-cell l = (l.word == board_state l.board) ≡ (l.rest == board_state (drop l.cell l.board))
