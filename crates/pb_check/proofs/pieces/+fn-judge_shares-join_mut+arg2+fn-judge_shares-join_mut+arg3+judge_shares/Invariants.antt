use Rattle.std.proofs.Common.{◌+◌, ◌*◌, length}
use Rattle.pb_check.proofs.pieces.+fn-judge_shares-join_mut+arg2+fn-judge_shares-join_mut+arg3+judge_shares.Given as goal

abbrev pub decreases-join_mut+arg2 : goal.decreases-join_mut+arg2
decreases-join_mut+arg2 g l = 2 * length l.front.now + 1

abbrev pub decreases-join_mut+arg3 : goal.decreases-join_mut+arg3
decreases-join_mut+arg3 g l = 2 * length l.back.now + 1

abbrev pub decreases-judge_shares : goal.decreases-judge_shares
decreases-judge_shares g l = 2 * length l.estimators.now
