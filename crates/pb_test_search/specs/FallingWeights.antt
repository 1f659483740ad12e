-- A graph with which another run can begin, once it was opened again.
use Rattle.std.specs.Prelude.{◌≡◌, ℕ, ◌<◌}
use Rattle.pb_model.specs.Store.{Rows}
use Rattle.pb_machine.specs.Machine.{Machine}
use Rattle.pb_task.specs.declared.parts.TaskParts.{TaskParts}
use Rattle.pb_estimate.specs.Choices.{Plain}
use Rattle.pb_lease.specs.GraphValue.{GraphValue}
use Rattle.pb_lease.specs.Moments.{IsMoment}
use Rattle.pb_lease.specs.Begins.{FitsWord}

-- The graph is of this task, with the plain estimate. It was opened again so often. It is a lawful
-- moment, and a word can say its incumbent if it has several workers.
pub record IsAfterRuns (parts : TaskParts) (reopenings : ℕ) (g : GraphValue) : Type 0 where
  pub task : g.task ≡ parts
  pub choice : g.choice ≡ Plain
  pub past : g.table.past.reopenings ≡ reopenings
  pub recorded : (worker : ℕ) → Rows
  pub machine : Machine
  pub moment : IsMoment g recorded machine
  pub fits : 1 < g.table.settings.workers → FitsWord g.incumbent
