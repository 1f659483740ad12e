-- The rule of the yard: what holds of the graph and of the views of all passes between any two
-- steps.
use Rattle.std.specs.Prelude.{◌≡◌, ℕ, ◌≤◌, ◌==◌, Bool, false, IsTrue, IsFalse, List, map, length, Option, Some, None}
use Rattle.std.specs.List.{list_any}
use mathlib.Core.Option.{some}
use lib.ListN.{get_elem?}
use Rattle.pb_model.specs.Store.{Rows, AtMost}
use Rattle.pb_task.specs.Parts.{greatest_cost}
use Rattle.pb_machine.specs.declared.event.Grant.{Grant}
use Rattle.pb_machine.specs.Settings.{AreInRange}
use Rattle.pb_machine.specs.Views as of_machine
use Rattle.pb_machine.specs.Views.{AreTrueOf}
use Rattle.pb_machine.specs.Room.{no_room, rooms_after}
use Rattle.pb_machine.specs.Machine.{IsSetup, Machine, Move, journal_of}
use Rattle.pb_bundles.specs.Parts.{away_rows}
use Rattle.pb_lease.specs.Tables.{rooms}
use Rattle.pb_lease.specs.LeaseValue.{LeaseValue}
use Rattle.pb_lease.specs.Leased.{grant_of}
use Rattle.pb_lease.specs.GraphValue.{GraphValue, setup_in, IsOfGraph}
use Rattle.pb_lease.specs.Moments.{IsMomentAt}
use Rattle.pb_lease.specs.Begins.{begin_machine, IsBegin, IsOfRun}
use Rattle.pb_yard.specs.declared.view.View.{View}
use Rattle.pb_yard.specs.Views.{cost_of, has_left}
use Rattle.pb_yard.specs.Order.{RunsSettled}

-- the rows that a lease was given or last renewed with
abbrev pub rows_of : Option LeaseValue → Rows
rows_of None = λ home state. None
rows_of (Some lease) = away_rows lease.parts

-- what the lease machine has of it
abbrev pub grant_in : Option LeaseValue → Option Grant
grant_in None = None
grant_in (Some lease) = Some (grant_of lease)

abbrev pub journal_view : View → of_machine.View
journal_view view = view.journal

-- whether a read found this cost
abbrev pub is_cost : (cost : ℕ) → (found : Option ℕ) → Bool
is_cost cost None = false
is_cost cost (Some number) = number == cost

-- whether the pass has read this as the incumbent
abbrev pub was_read : View → Option ℕ → Bool
was_read view None = false
was_read view (Some cost) = list_any (is_cost cost) view.read

-- The lease is the one that the graph gave to this worker, as it was given or last renewed. No
-- expansion is made yet, and the incumbent is what the machine gave.
pub record IsLent (g : GraphValue) (machine : Machine) (worker : ℕ) (lease : LeaseValue) : Type 0
  where
    pub worker_is : lease.worker ≡ worker
    pub of_graph : IsOfGraph g lease
    pub unused : lease.used ≡ 0
    pub given : machine.given worker ≡ lease.incumbent

-- the view is of the graph's search
pub record IsSearchOf (g : GraphValue) (view : View) : Type 0 where
  pub task : view.task ≡ g.task
  pub abstraction : view.abstraction ≡ g.table.abstraction
  pub choice : view.choice ≡ g.choice
  pub settings : view.settings ≡ g.table.settings

-- Every worker can have read what the pass has read as the incumbent. The pass's own worker can
-- have read what it has told.
pub record IsKnownTo (machine : Machine) (view : View) : Type 0 where
  pub read : (incumbent : Option ℕ) → IsTrue (was_read view incumbent) → (worker : ℕ)
      → IsTrue (machine.known worker incumbent)
  pub last : IsTrue (machine.known view.journal.own.worker view.last)

-- What a live view says is true: its pass has the lease that its worker was lent, and its worker
-- told what it says. What the pass has read or told is at most the incumbent that its lease was
-- lent with.
pub record IsViewOf (g : GraphValue) (machine : Machine) (lent_to : (worker : ℕ)
    → Option LeaseValue) (view : View) : Type 0 where
  pub lent : lent_to view.journal.own.worker ≡ view.lent
  pub told : machine.told view.journal.own.worker ≡ view.told
  pub search : IsSearchOf g view
  pub known : IsKnownTo machine view
  pub copy : (lease : LeaseValue) → view.lent ≡ Some lease → AtMost view.last lease.incumbent

-- If the pass read the incumbent last, while it held the graph and with no event since, it read at
-- most the last event's incumbent.
pub record IsRecent (g : GraphValue) (settled : Option ℕ) (view : View) : Type 0 where
  pub read_by : (events : ℕ) → view.read_at ≡ Some events → events ≤ length g.table.journal
  pub fresh : view.read_at ≡ Some (length g.table.journal) → AtMost view.last settled

-- no live pass is the worker's: it has none yet, or it was taken in
abbrev pub HasNoPass : (worker : ℕ) → List View → Type 0
HasNoPass worker views =
    (seat : ℕ) (view : View) → get_elem? views seat ≡ some view → IsTrue view.journal.is_live
    → IsFalse (view.journal.own.worker == worker)

-- a live pass has it that the worker left the order
abbrev pub HasLeaver : (worker : ℕ) → List View → Type 0
HasLeaver worker views =
    (seat : ℕ) × (view : View) × (get_elem? views seat ≡ some view) × IsTrue view.journal.is_live
    × IsTrue (has_left view worker)

-- The graph, with what its workers were lent, is a lawful moment of the lease machine. The yard was
-- made with the graph `begin`, and all live views say so. Moves from the machine that a run begins
-- with there lead to that moment, and their events are the journal. The moves are in order and in
-- time but for those of workers of which a live pass has it that they left the order. Each lease
-- has the room that these moves leave it. The shared number is the least cost that was found or
-- told: the incumbent of the whole store. The views of all passes are true of the journal and of
-- what is lent. A worker that has no live pass has no lease.
pub record IsYard (g : GraphValue) (shared : Option ℕ) (views : List View) : Type 0 where
  pub is_setup : IsSetup (setup_in g) greatest_cost
  pub in_range : AreInRange g.table.settings
  pub begin : GraphValue
  pub begins : IsBegin begin
  pub of_run : IsOfRun begin g
  pub moves : List Move
  pub machine : Machine
  pub lent : (worker : ℕ) → Option LeaseValue
  pub settled : Option ℕ
  pub keeps : (worker : ℕ) → Bool
  pub run : RunsSettled (setup_in g) keeps no_room (begin_machine begin) begin.incumbent moves
      machine settled
  pub leavers : (worker : ℕ) → IsFalse (keeps worker) → HasLeaver worker views
  pub journal : journal_of moves ≡ g.table.journal
  pub rooms_are : rooms_after no_room moves ≡ rooms g.table
  pub moment : IsMomentAt g (λ worker. rows_of (lent worker)) machine
  pub shared_is : machine.store.incumbent ≡ shared
  pub leases : (worker : ℕ) → machine.counts.leases worker ≡ grant_in (lent worker)
  pub lent_is : (worker : ℕ) (lease : LeaseValue) → lent worker ≡ Some lease
      → IsLent g machine worker lease
  pub journals : AreTrueOf g.table.settings.workers g.table.journal (map journal_view views)
  pub each : (seat : ℕ) (view : View) → get_elem? views seat ≡ some view
      → IsTrue view.journal.is_live → IsViewOf g machine lent view
  pub recent : (seat : ℕ) (view : View) → get_elem? views seat ≡ some view
      → IsTrue view.journal.is_live → IsRecent g settled view
  pub began : (seat : ℕ) (view : View) → get_elem? views seat ≡ some view
      → IsTrue view.journal.is_live → view.begin ≡ begin
  pub others : (worker : ℕ) → HasNoPass worker views → lent worker ≡ None

-- what the lock keeps: the yard's rule, for the shared incumbent that the number says
abbrev pub YardFact : GraphValue → ℕ → List View → Type 0
YardFact g number views = IsYard g (cost_of number) views

-- the yard has this graph, and one of its passes has this view
pub record IsAt (g : GraphValue) (view : View) : Type 0 where
  pub shared : Option ℕ
  pub seat : ℕ
  pub views : List View
  pub yard : IsYard g shared views
  pub mine : get_elem? views seat ≡ some view
