use Rattle.std.proofs.Common.{◌≡◌, ◌+◌, drop}
use Rattle.pb_task.specs.Parts.{space_of}
use Rattle.pb_check.specs.Judging.{first_fault_by, state_fault}
use Rattle.pb_check.proofs.row_faults.states_fault.Given as goal

abbrev pub invariant-loop-i : goal.invariant-loop-i
invariant-loop-i l = record {
  so_far : first_fault_by (state_fault (space_of l.task)) l.line l.rows ≡ first_fault_by (state_fault (space_of l.task)) (l.line + l.i) (drop l.i l.rows);
}
