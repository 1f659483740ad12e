use Rattle.std.proofs.Common.{◌≡◌, ℕ, ◌<◌, ◌≤◌, None}
use Rattle.pb_estimate.specs.Tables.{IsOfTask}
use Rattle.pb_check.specs.RowsToJudge.{fault_in_place}
use Rattle.pb_check.proofs.pieces.judge_piece.Given as goal

abbrev pub invariant-loop-place : goal.invariant-loop-place
invariant-loop-place l = (l.from ≤ l.place) × IsOfTask l.estimator l.judged.task.now l.judged.choice.now
    × ((at : ℕ) → l.from ≤ at → at < l.place → fault_in_place l.judged at ≡ None)
