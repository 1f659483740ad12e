use Rattle.std.proofs.Common.{append_assoc}
use Rattle.pb_make.proofs.Rows.{facts-more}
use Rattle.pb_make.proofs.problems.push_facts.Goals as goal

pub loop-block-preserved : goal.loop-block-preserved
loop-block-preserved c =
    rw (c.in_ok-push_fact.ensures, append_assoc) (rw (facts-more c.loop-block.block c.args.blocks c.loop-block-test.true) at c.loop-block.invariant)
