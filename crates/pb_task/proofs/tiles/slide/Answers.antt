use Rattle.pb_task.proofs.Sliding.{small_numbers}
use Rattle.pb_task.proofs.Boards.{small_permuted}
use Rattle.pb_task.proofs.tiles.slide.Goals as goal

pub pack-requires-clause-small : goal.pack-requires-clause-small
pack-requires-clause-small c =
    small_permuted 16 c.args.board.now c.swap.new.self c.swap.ensures.permutation (small_numbers c.args.tiles.now c.requires.tiles c.args.board.now c.requires.board)
