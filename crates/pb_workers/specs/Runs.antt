-- A search by leases goes on, and a graph with it.
use Rattle.std.specs.Prelude.{◌≡◌, ℕ, List, ◌++◌}
use Rattle.pb_model.specs.Store.{Rows}
use Rattle.pb_machine.specs.Room.{rooms_after}
use Rattle.pb_machine.specs.Machine.{Machine, Move, journal_of}
use Rattle.pb_lease.specs.Tables.{rooms}
use Rattle.pb_lease.specs.GraphValue.{GraphValue, setup_in}
use Rattle.pb_lease.specs.Moments.{IsMoment}
use Rattle.pb_yard.specs.Order.{RunsInTime}

-- it is the same run: the same task, by the same blocks, with the same estimate and settings, and
-- the same runs before it
pub record IsSameSearch (old new : GraphValue) : Type 0 where
  pub task : new.task ≡ old.task
  pub abstraction : new.table.abstraction ≡ old.table.abstraction
  pub choice : new.choice ≡ old.choice
  pub settings : new.table.settings ≡ old.table.settings
  pub past : new.table.past ≡ old.table.past

-- the graph, with some rows recorded for its leases, is a moment of the lease machine
abbrev pub IsAnyMoment : GraphValue → Type 0
IsAnyMoment g = (recorded : (worker : ℕ) → Rows) × (machine : Machine) × IsMoment g recorded machine

-- From this machine a run in order and in time leads to one that the new graph is a moment of. The
-- events of the run are those that the journal got, and each lease has the room that the run leaves
-- it. These rows are recorded for the leases that are out.
pub record RunsTo (old : GraphValue) (machine : Machine) (new : GraphValue)
    (recorded : (worker : ℕ) → Rows) (next : Machine) : Type 0 where
  pub moves : List Move
  pub run : RunsInTime (setup_in old) (rooms old.table) machine moves next
  pub events : new.table.journal ≡ old.table.journal ++ journal_of moves
  pub room : rooms_after (rooms old.table) moves ≡ rooms new.table
  pub moment : IsMoment new recorded next

-- from each machine that the old graph is a moment of, such a run leads to one that the new graph
-- is a moment of
abbrev pub RunsOn : (old new : GraphValue) → Type 0
RunsOn old new =
    (recorded : (worker : ℕ) → Rows) (machine : Machine) → IsMoment old recorded machine
    → (next : Machine) × RunsTo old machine new recorded next
