use Rattle.std.proofs.Common.{◌≡◌, ◌+◌, ◌-◌}
use Rattle.pb_task.specs.Tiles.{board_of}
use Rattle.pb_task.proofs.Exchanges.{before_blank}
use Rattle.pb_task.proofs.tiles.blank_in.Given as goal

abbrev pub invariant-loop-cell : goal.invariant-loop-cell
invariant-loop-cell l = before_blank (board_of l.count l.word) ≡ l.cell + before_blank (board_of (l.count - l.cell) l.rest)
