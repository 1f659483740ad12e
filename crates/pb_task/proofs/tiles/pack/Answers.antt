use Rattle.std.proofs.Common.{◌<◌, ◌^◌, ◌-◌, ◌≡◌, drop, get_or, arith}
use Rattle.pb_task.specs.Tiles.{board_state}
use Rattle.pb_task.proofs.Boards.{rest_fits, small_at}
use Rattle.pb_task.proofs.tiles.pack.Goals as goal

pub overflow_mul-word : goal.overflow_mul-word
overflow_mul-word c =
    let is : c.loop-cell.word ≡ board_state (drop c.loop-cell.cell c.args.board.now) = c.loop-cell.invariant in
    let fits : board_state (drop c.loop-cell.cell c.args.board.now) < 2 ^ 60 = rest_fits c.args.board.now c.loop-cell.cell c.requires.few c.requires.small (omega arith) in
    omega arith

pub overflow_add-word : goal.overflow_add-word
overflow_add-word c =
    let is : c.loop-cell.word ≡ board_state (drop c.loop-cell.cell c.args.board.now) = c.loop-cell.invariant in
    let fits : board_state (drop c.loop-cell.cell c.args.board.now) < 2 ^ 60 = rest_fits c.args.board.now c.loop-cell.cell c.requires.few c.requires.small (omega arith) in
    let small : get_or c.args.board.now (c.loop-cell.cell - 1) 0 < 16 = small_at c.args.board.now (c.loop-cell.cell - 1) c.requires.small (omega arith) in
    omega arith
