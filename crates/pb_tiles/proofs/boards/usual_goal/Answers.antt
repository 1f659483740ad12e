use Rattle.std.proofs.Common.{◌∙◌}
use Rattle.pb_tiles.proofs.Filling.{range_more}
use Rattle.pb_tiles.proofs.boards.usual_goal.Goals as goal

pub loop-number-preserved : goal.loop-number-preserved
loop-number-preserved c = c.in_ok-push.ensures.items ∙ range_more c.loop-number.number c.loop-number.numbers.items c.loop-number.invariant
