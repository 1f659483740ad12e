use Rattle.std.proofs.Common.{◌-◌, append_assoc}
use Rattle.pb_make.proofs.Drawn.{draws-more}
use Rattle.pb_make.proofs.problems.push_goal.Goals as goal

pub loop-block-preserved : goal.loop-block-preserved
loop-block-preserved c =
    rw (c.in_ok-push_atom.ensures, append_assoc, c.draw.ensures.draw, c.draw.ensures.after)
    (rw (draws-more c.loop-block.block (c.args.blocks - 1) c.loop-block.generator.number c.loop-block-test.true) at c.loop-block.invariant)
