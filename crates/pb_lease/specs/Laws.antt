-- The laws of this crate: what the tests by numbers mean for the choice of a block, and that leases
-- stay out. Each is proved, as the contract of the public function that has its name.
use Rattle.std.specs.Prelude.{◌≡◌, ℕ, ◌<◌, Bool, ◌==◌, IsTrue, IsFalse, List, Option, None, ◌↔◌}
use Rattle.pb_model.specs.Store.{Rows, Store, HasOpened}
use Rattle.pb_machine.specs.declared.event.Event.{Event}
use Rattle.pb_machine.specs.declared.settings.Settings.{Settings}
use Rattle.pb_machine.specs.Views.{AreBy}
use Rattle.pb_machine.specs.Blocks.{Blocks}
use Rattle.pb_machine.specs.Counts.{Counts, AreLawful, is_any_out}
use Rattle.pb_machine.specs.Choice.{MayBeLeased}
use Rattle.pb_machine.specs.Machine.{Setup, IsSetup, Machine, IsWorked, Move, tell_move, Moves, Runs, AreOfOthers}
use Rattle.pb_machine.specs.Turns.{AreLeaseTurns}
use Rattle.pb_machine.specs.Lawful.{IsLawful}
use Rattle.pb_bundles.specs.Parts.{away_rows}
use Rattle.pb_lease.specs.LeaseValue.{LeaseValue, leased_store, IsSameLease}
use Rattle.pb_lease.specs.Leased.{IsOut, IsInTurns}
use Rattle.pb_lease.specs.GraphValue.{GraphValue, setup_in, IsLeaseGraph, IsOfGraph}
use Rattle.pb_lease.specs.Choices.{is_out_in}
use Rattle.pb_lease.specs.Moments.{IsMomentAt, IsMoment, moves_of}
use Rattle.pb_lease.specs.Leasing.{can_be_leased}

-- A block with an Opened row may be leased exactly if it can be, by the numbers.
abbrev pub OpenedBlocksMayBeLeased : Type 0
OpenedBlocksMayBeLeased =
    (of : Blocks) (settings : Settings) (counts : Counts) (store : Store) (block : ℕ)
    → block < of.count → HasOpened (store.rows block)
    → IsTrue (can_be_leased of settings counts block) ↔ MayBeLeased of settings counts store block

-- If no lease is out before the end, every block can be leased while something is left of the
-- budget.
abbrev pub NoneOutCanBeLeased : Type 0
NoneOutCanBeLeased =
    (of : Blocks) (settings : Settings) (counts : Counts) (block : ℕ) → AreLawful of settings counts
    → block < of.count
    → IsFalse (is_any_out settings.workers counts.leases) → counts.end ≡ None → 0 < counts.left
    → IsTrue (can_be_leased of settings counts block)

-- While events of other workers come, and while these tell costs, a lease that is out stays out. If
-- its work was done in turns, it still is.
abbrev pub LeasesStayOut : Type 0
LeasesStayOut =
    (setup : Setup) (greatest_cost : ℕ) (moves : List Move) (machine next : Machine)
    → IsSetup setup greatest_cost → IsLawful setup machine → Runs setup machine moves next
    → (lease : LeaseValue) (most_broken : ℕ) → AreOfOthers lease.worker moves
    → (out : IsOut setup machine most_broken lease)
    → (after : IsOut setup next most_broken lease)
    × (IsInTurns setup machine most_broken lease out → IsInTurns setup next most_broken lease after)

-- A lease that was worked on is out at the graph's present moment under three conditions. The rows
-- that it was lent are recorded for its worker. The incumbent that it was lent is the one that the
-- worker was given. The worker can have read by now what it read. If the work from what was lent
-- was in turns, the lease's work was done in turns.
abbrev pub WorkedLeasesAreOut : Type 0
WorkedLeasesAreOut =
    (g : GraphValue) (recorded : (worker : ℕ) → Rows) (machine : Machine)
    → IsMomentAt g recorded machine
    → (lent lease : LeaseValue) (most_broken : ℕ) (known : Option ℕ → Bool) → IsOfGraph g lent
    → IsSameLease lent lease
    → recorded lent.worker ≡ away_rows lent.parts → machine.given lent.worker ≡ lent.incumbent
    → ((incumbent : Option ℕ) → IsTrue (known incumbent)
    → IsTrue (machine.known lent.worker incumbent))
    → (work : IsWorked (setup_in g).space (setup_in g).guide lent.block lease.used most_broken known
    (leased_store lent) (leased_store lease))
    → (out : IsOut (setup_in g) machine most_broken lease)
    × (AreLeaseTurns (setup_in g).space (setup_in g).guide work.works (leased_store lent)
    → IsInTurns (setup_in g) machine most_broken lease out)

-- When a worker tells a cost, the graph is a moment as before, whatever it has as its incumbent.
abbrev pub TellsKeepMoments : Type 0
TellsKeepMoments =
    (g : GraphValue) (recorded : (worker : ℕ) → Rows) (machine next : Machine) (worker cost : ℕ)
    → IsLeaseGraph g → IsMomentAt g recorded machine
    → Moves (setup_in g) machine (tell_move worker cost) next → IsMomentAt g recorded next

-- If no lease is out, a graph that has its machine's incumbent has no told cost that is still to be
-- shown.
abbrev pub NoneOutIsMoment : Type 0
NoneOutIsMoment =
    (g : GraphValue) (recorded : (worker : ℕ) → Rows) (machine : Machine)
    → IsMomentAt g recorded machine → IsFalse (is_out_in g)
    → machine.store.incumbent ≡ g.incumbent → IsMoment g recorded machine

-- Events of one worker, or of nobody, are no moves of another.
abbrev pub EventsLeaveOthers : Type 0
EventsLeaveOthers =
    (worker other : ℕ) (events : List Event) → AreBy worker events → IsFalse (other == worker)
    → AreOfOthers other (moves_of events)
