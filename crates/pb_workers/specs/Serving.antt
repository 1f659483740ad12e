-- A worker and what it searches.
use Rattle.std.specs.Prelude.{◌≡◌}
use Rattle.pb_task.specs.declared.parts.TaskParts.{TaskParts}
use Rattle.pb_estimate.specs.Choices.{Choice}
use Rattle.pb_estimate.specs.Tables.{IsOfTask}
use Rattle.pb_abstract.specs.Graph.{AbstractGraph}
use Rattle.pb_lease.specs.GraphValue.{GraphValue}
use Rattle.pb_yard.specs.declared.view.View.{View}
use Rattle.pb_workers.specs.declared.worker.Worker.{Worker}

-- what is searched: a task, by its blocks, with the estimates of a choice
pub record Search : Type 0 where
  pub task : TaskParts
  pub abstraction : AbstractGraph
  pub choice : Choice

-- what a graph of leases searches
abbrev pub searched_in : GraphValue → Search
searched_in g = record { task = g.task; abstraction = g.table.abstraction; choice = g.choice }

-- what the yard of a pass searches
abbrev pub searched_by : View → Search
searched_by view = record { task = view.task; abstraction = view.abstraction; choice = view.choice }

-- The worker is for this search: it has the task and the blocks, and tools for the task and the
-- estimates.
pub record Serves (worker : Worker) (what : Search) : Type 0 where
  pub task : what.task ≡ worker.task.now
  pub abstraction : what.abstraction ≡ worker.abstraction.now
  pub tools : IsOfTask worker.estimator worker.task.now what.choice
