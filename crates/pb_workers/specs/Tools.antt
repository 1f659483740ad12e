-- What a worker needs memory for.
use Rattle.std.specs.Prelude.{◌≤◌, List, All, vec_capacity}
use Rattle.pb_task.specs.declared.parts.TaskParts.{TaskParts}
use Rattle.pb_task.specs.Parts.{max_degree_of}
use Rattle.pb_estimate.specs.Choices.{Choice}
use Rattle.pb_estimate.specs.Tables.{IsOfTask}
use Rattle.pb_workers.specs.declared.worker.Tools.{Tools}

-- the estimator is of the task and the choice, and the list has room for the successors of any state
abbrev pub AreFor : (task : TaskParts) → Choice → Tools → Type 0
AreFor task choice tools =
    IsOfTask tools.estimator task choice × (max_degree_of task ≤ vec_capacity tools.succs)

-- all of these tools are for this task and this choice
abbrev pub AllAreFor : (task : TaskParts) → Choice → List Tools → Type 0
AllAreFor task choice list = All (AreFor task choice) list
