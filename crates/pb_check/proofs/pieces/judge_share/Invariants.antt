use Rattle.std.proofs.Common.{◌≡◌, ℕ, ◌+◌, ◌-◌, ◌*◌, length}
use Rattle.pb_estimate.specs.Tables.{IsOfTask}
use Rattle.pb_check.specs.RowsToJudge.{fault_in_place}
use Rattle.pb_check.proofs.Shares.{NoneSoFar}
use Rattle.pb_check.proofs.pieces.judge_share.Given as goal

abbrev pub invariant-loop-at : goal.invariant-loop-at
invariant-loop-at g l = record {
  turns : ℕ;
  at_is : l.at ≡ l.worker + turns * l.division.workers;
  none : NoneSoFar (fault_in_place l.judged) (length l.judged.rows.now) l.division.piece l.division.workers l.worker turns;
  task : IsOfTask l.estimator l.judged.task.now l.judged.choice.now;
}

abbrev pub decreases-loop-at : goal.decreases-loop-at
decreases-loop-at g l = l.pieces - l.at
