-- Workers that search together.
use Rattle.std.specs.Prelude.{◌≡◌, ◌+◌, ℕ, []}
use Rattle.pb_task.specs.declared.parts.TaskParts.{TaskParts}
use Rattle.pb_abstract.specs.Graph.{AbstractGraph}
use Rattle.pb_yard.specs.declared.view.View.{View}
use Rattle.pb_workers.specs.Shared.{IsIdle}

-- The pass's worker is idle, the pass took in no other, and this many passes are still to be made.
pub record IsToSplit (task : TaskParts) (abstraction : AbstractGraph) (more : ℕ)
    (view : View) : Type 0
  where
    pub idle : IsIdle task abstraction view
    pub none_taken_in : view.journal.taken_in ≡ []
    pub more_is : view.journal.made + more ≡ view.settings.workers

-- It is the same search: the same task, by the same blocks, with the same estimate and settings. No
-- worker left the order.
pub record KeepsSearch (old new : View) : Type 0 where
  pub task : new.task ≡ old.task
  pub abstraction : new.abstraction ≡ old.abstraction
  pub choice : new.choice ≡ old.choice
  pub settings : new.settings ≡ old.settings
  pub begin : new.begin ≡ old.begin
  pub left_order : new.left_order ≡ old.left_order
