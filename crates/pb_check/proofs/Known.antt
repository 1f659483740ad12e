-- What is accepted, for tasks and their estimates.
use Rattle.std.proofs.Common.{List, ℕ, Result, Ok, Err}
use Rattle.std.specs.Prelude.{IfOk}
use Rattle.pb_task.specs.Parts.{space_of, IsTask, greatest_cost}
use Rattle.pb_task.specs.declared.parts.TaskParts.{TaskParts}
use Rattle.pb_task.proofs.Callers.{tasks_are_proper}
use Rattle.pb_model.specs.Space.{IsProper}
use Rattle.pb_check.specs.declared.fault.Verdict.{Verdict}
use Rattle.pb_check.specs.declared.fault.CheckError.{CheckError}
use Rattle.pb_check.specs.Faults.{Gives}
use Rattle.pb_check.specs.Judging.{checked}
use Rattle.pb_check.specs.Shown.{IsAccepted, ShowsClaim}
use Rattle.pb_check.proofs.Validity.{if_accepted}
use Rattle.pb_check.proofs.Claims.{claims}

if_proper : (task : TaskParts) (r : Result Verdict CheckError) → IfOk r (λ verdict. IsTask task) → IfOk r (λ verdict. IsProper (space_of task) greatest_cost)
if_proper task (Ok verdict) lawful = (tasks_are_proper task lawful).0
if_proper task (Err e) lawful = tt

pub accepted : (task : TaskParts) (bytes : List ℕ) (r : Result Verdict CheckError) → IfOk r (λ verdict. IsTask task) → Gives (λ x. x) r (checked task bytes)
    → IfOk r (λ verdict. IsAccepted task bytes verdict)
accepted task bytes r lawful exact = if_accepted task greatest_cost bytes r (if_proper task r lawful) exact

pub claimed : (task : TaskParts) (bytes : List ℕ) (r : Result Verdict CheckError) → IfOk r (λ verdict. IsTask task) → Gives (λ x. x) r (checked task bytes)
    → IfOk r (λ verdict. ShowsClaim task bytes verdict)
claimed task bytes r lawful exact = claims task bytes r lawful (accepted task bytes r lawful exact)
