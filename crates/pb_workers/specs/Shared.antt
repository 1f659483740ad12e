-- A worker that shares a yard with others: what its pass knows between its calls.
use Rattle.std.specs.Prelude.{◌≡◌, ℕ, Bool, Option, None, Some}
use Rattle.pb_task.specs.declared.parts.TaskParts.{TaskParts}
use Rattle.pb_abstract.specs.Graph.{AbstractGraph, IsGraphOf}
use Rattle.pb_lease.specs.LeaseValue.{LeaseValue}
use Rattle.pb_lease.specs.GraphValue.{GraphValue}
use Rattle.pb_yard.specs.declared.view.View.{View}
use Rattle.pb_yard.specs.Rule.{IsAt}
use Rattle.pb_yard.specs.Calls.{IsActive, AsksRival, Marks}

-- The pass is of the same worker in the same search, has taken in the same passes, and has made as
-- many. No worker left the order.
pub record IsSameHolder (old new : View) : Type 0 where
  pub worker : new.journal.own.worker ≡ old.journal.own.worker
  pub taken_in : new.journal.taken_in ≡ old.journal.taken_in
  pub made : new.journal.made ≡ old.journal.made
  pub task : new.task ≡ old.task
  pub abstraction : new.abstraction ≡ old.abstraction
  pub choice : new.choice ≡ old.choice
  pub settings : new.settings ≡ old.settings
  pub begin : new.begin ≡ old.begin
  pub left_order : new.left_order ≡ old.left_order

-- The search is for this task by these blocks of its own. The pass's worker has no lease and has
-- not signed off.
pub record IsIdle (task : TaskParts) (abstraction : AbstractGraph) (view : View) : Type 0 where
  pub of_task : IsGraphOf task abstraction
  pub task_is : view.task ≡ task
  pub graph_is : view.abstraction ≡ abstraction
  pub vacant : view.lent ≡ None
  pub stays : IsActive view

-- The search is for this task by these blocks of its own. The pass's worker has this lease, as it
-- was given or last renewed, has told no cost, and has not signed off. The pass was one of a yard
-- with some graph.
pub record IsLeased (task : TaskParts) (abstraction : AbstractGraph) (view : View)
    (lease : LeaseValue) :
    Type 0 where
  pub of_task : IsGraphOf task abstraction
  pub task_is : view.task ≡ task
  pub graph_is : view.abstraction ≡ abstraction
  pub lent : view.lent ≡ Some lease
  pub untold : view.told ≡ None
  pub stays : IsActive view
  pub yard : GraphValue
  pub at : IsAt yard view

-- The worker asked that this block be hot, and that of no other; without a block it asked nothing.
abbrev pub AsksToMark : (worker : ℕ) → (block : Option ℕ) → (old new : View) → Type 0
AsksToMark worker None old new = new ≡ old
AsksToMark worker (Some block) old new = (done : Bool) × Marks worker block old done new

-- The pass was told the rival of its lease's block: the best block of its interference that is
-- better, or none. Then the worker asked that the rival be hot, and that of no other block.
abbrev pub MarksRivalTold : (worker : ℕ) → LeaseValue → (old new : View) → Type 0
MarksRivalTold worker lease old new =
    (told : View) × (rival : Option ℕ) × AsksRival lease old rival told
    × AsksToMark worker rival told new
