use Rattle.std.proofs.Common.{◌≡◌, None}
use Rattle.pb_task.specs.Parts.{space_of}
use Rattle.pb_check.specs.Judging.{steps_fault}
use Rattle.pb_check.proofs.row_faults.steps_fault.Given as goal

abbrev pub invariant-loop-action : goal.invariant-loop-action
invariant-loop-action l = steps_fault (space_of l.task) l.rows l.line l.g l.state l.action ≡ None
