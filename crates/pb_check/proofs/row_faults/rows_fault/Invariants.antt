use Rattle.std.proofs.Common.{◌≡◌, ◌+◌, drop, None}
use Rattle.pb_task.specs.Parts.{space_of}
use Rattle.pb_estimate.specs.Tables.{IsOfTask}
use Rattle.pb_check.specs.Judging.{first_fault_by, state_fault}
use Rattle.pb_check.specs.RowsToJudge.{fault_by}
use Rattle.pb_check.proofs.row_faults.rows_fault.Given as goal

abbrev pub invariant-loop-i : goal.invariant-loop-i
invariant-loop-i l = record {
  task : IsOfTask l.estimator l.judged.task.now l.judged.choice.now;
  states : first_fault_by (state_fault (space_of l.judged.task.now)) (l.judged.line + l.i) (drop l.i l.judged.rows.now) ≡ None;
  so_far : first_fault_by (fault_by l.judged) l.judged.line l.judged.rows.now ≡ first_fault_by (fault_by l.judged) (l.judged.line + l.i) (drop l.i l.judged.rows.now);
}
