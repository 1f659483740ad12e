use Rattle.pb_make.proofs.Drawn.{draws-more}
use Rattle.pb_make.proofs.boards.make_board.Goals as goal

pub loop-move-preserved : goal.loop-move-preserved
loop-move-preserved c =
    rw (c.move_blank.ensures, c.draw.ensures.draw, c.draw.ensures.after)
    (rw (draws-more c.loop-move._move c.args.moves c.loop-move.generator.number c.loop-move-test.true) at c.loop-move.invariant)
