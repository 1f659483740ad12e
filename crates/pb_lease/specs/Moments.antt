-- A graph, with the rows that its leases were given or last renewed with, as a moment of the lease
-- machine.
use Rattle.std.specs.Prelude.{◌≡◌, ℕ, IsTrue, None, Some, Option, List, [], ◌∷◌}
use Rattle.pb_model.specs.Store.{Rows, HasGoalWithin, lesser}
use Rattle.pb_machine.specs.declared.event.Event.{Event}
use Rattle.pb_machine.specs.Machine.{Machine, Move, event_move, Runs, with_incumbent}
use Rattle.pb_machine.specs.Turns.{RunsInOrder}
use Rattle.pb_machine.specs.Lawful.{IsLawful}
use Rattle.pb_machine.specs.Whole.{IsWhole}
use Rattle.pb_bundles.specs.Homes.{key_at, home_rows}
use Rattle.pb_bundles.specs.Stores.{HasKeys}
use Rattle.pb_lease.specs.LeaseValue.{LeaseValue, leased_store}
use Rattle.pb_lease.specs.GraphValue.{GraphValue, setup_in, counts_in}

-- The graph, with the rows that are recorded for the leases that are out, is this lawful moment of
-- the machine. It has the machine's counts. The whole store has the rows at home and the recorded
-- ones, and the noted keys are its own. Each worker can have read the graph's incumbent; the
-- machine's may be lower by now, since workers tell costs.
pub record IsMomentAt (g : GraphValue) (recorded : (worker : ℕ) → Rows) (machine : Machine) : Type 0
  where
    pub lawful : IsLawful (setup_in g) machine
    pub counts : machine.counts ≡ counts_in g
    pub whole : IsWhole (setup_in g) machine.counts (home_rows g.homes) recorded machine.store
    pub keys : HasKeys machine.store (key_at g.homes)
    pub incumbent : (worker : ℕ) → IsTrue (machine.known worker g.incumbent)

-- The graph is this moment, and its incumbent is the machine's: no worker told a cost that its
-- lease has still to show.
pub record IsMoment (g : GraphValue) (recorded : (worker : ℕ) → Rows) (machine : Machine) : Type 0
  where
    pub at : IsMomentAt g recorded machine
    pub incumbent : machine.store.incumbent ≡ g.incumbent
    pub untold : (worker : ℕ) → machine.told worker ≡ None

-- these events as moves of the machine
abbrev pub moves_of : List Event → List Move
moves_of [] = []
moves_of (event ∷ events) = event_move event ∷ moves_of events

-- From this machine these moves lead to one that the new graph is a moment of. The search is the
-- same.
pub record FollowsBy (old : GraphValue) (machine : Machine) (made : List Move) (new : GraphValue)
    (recorded : (worker : ℕ) → Rows) (next : Machine) : Type 0 where
  pub setup : setup_in new ≡ setup_in old
  pub moves : Runs (setup_in old) machine made next
  pub moment : IsMomentAt new recorded next

-- the same by these events
abbrev pub Follows : (old : GraphValue) → Machine → List Event → (new : GraphValue)
    → (recorded : (worker : ℕ) → Rows) → (next : Machine) → Type 0
Follows old machine events new recorded next =
    FollowsBy old machine (moves_of events) new recorded next

-- The same, with each of the events in order, and with both graphs having their machine's
-- incumbent.
pub record FollowsInOrder (old : GraphValue) (machine : Machine) (events : List Event)
    (new : GraphValue) (recorded : (worker : ℕ) → Rows) (next : Machine) : Type 0 where
  pub setup : setup_in new ≡ setup_in old
  pub moves : RunsInOrder (setup_in old) machine (moves_of events) next
  pub moment : IsMoment new recorded next

-- the cost that the lease's worker told, if it did, is shown by a goal's row of the lease
abbrev pub ShowsTold : GraphValue → Machine → LeaseValue → Type 0
ShowsTold g machine lease =
    (cost : ℕ) → machine.told lease.worker ≡ Some cost
    → HasGoalWithin (setup_in g).space (setup_in g).guide (leased_store lease) cost

-- the incumbent of the machine when the lease's is brought back
abbrev pub brought_incumbent : Machine → LeaseValue → Option ℕ
brought_incumbent machine lease = lesser machine.store.incumbent lease.incumbent

-- each worker can have read this as the incumbent when the lease's is brought back
abbrev pub IsKnownThen : Machine → LeaseValue → Option ℕ → Type 0
IsKnownThen machine lease incumbent =
    (worker : ℕ) → IsTrue (with_incumbent machine.known (brought_incumbent machine lease) worker
    incumbent)
