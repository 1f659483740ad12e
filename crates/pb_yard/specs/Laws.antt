-- What the rule of a yard means. Each law is proved, as the contract of the public function that
-- has its name.
use Rattle.std.specs.Prelude.{◌≡◌, ℕ, ◌==◌, Bool, IsTrue, IsFalse, List, Option, Some, None}
use Rattle.std.specs.List.{list_any}
use Rattle.pb_machine.specs.declared.event.End.{End}
use Rattle.pb_machine.specs.declared.event.End.TheVariants.{Memory}
use Rattle.pb_machine.specs.declared.event.Event.{Event}
use Rattle.pb_machine.specs.Blocks.{interferes}
use Rattle.pb_machine.specs.History.{IsHistory, StartsWith, is_off, is_report, end_in}
use Rattle.pb_machine.specs.Views.{IsShareOf}
use Rattle.pb_machine.specs.Machine.{Setup, IsSetup, Machine, lent_store, Move, journal_of, Runs}
use Rattle.pb_machine.specs.Turns.{RunsInOrder}
use Rattle.pb_machine.specs.Lawful.{IsLawful}
use Rattle.pb_lease.specs.declared.answer.LeaseReply.TheVariants.{Over}
use Rattle.pb_lease.specs.Tables.{blocks}
use Rattle.pb_lease.specs.LeaseValue.{LeaseValue, leased_store}
use Rattle.pb_lease.specs.Leased.{grant_of}
use Rattle.pb_lease.specs.GraphValue.{GraphValue, setup_in, counts_in}
use Rattle.pb_yard.specs.declared.view.View.{View}
use Rattle.pb_yard.specs.Views.{view_then}
use Rattle.pb_yard.specs.Order.{RunsInTime}
use Rattle.pb_yard.specs.Rule.{IsYard, IsAt}
use Rattle.pb_yard.specs.Returning.{IsBrought}
use Rattle.pb_yard.specs.Calls.{Leases, SignsOff, HasSignedOff, IsActive}

-- The moment is lawful, and the journal is a legal history, which leads to the graph's numbers. No
-- block is in the scopes of two leases that are out, and no two hot blocks interfere.
abbrev pub YardsAreLawful : Type 0
YardsAreLawful =
    (g : GraphValue) (shared : Option ℕ) (views : List View) → (yard : IsYard g shared views)
    → IsLawful (setup_in g) yard.machine
    × IsHistory (blocks g.table) g.table.settings g.table.past.spent g.table.journal (counts_in g)
    × ((worker other : ℕ) (lease second : LeaseValue) → yard.lent worker ≡ Some lease
    → yard.lent other ≡ Some second
    → IsFalse (worker == other) → (block : ℕ) → IsTrue ((blocks g.table).scope lease.block block)
    → IsFalse ((blocks g.table).scope second.block block))
    × ((block other : ℕ) → IsTrue ((counts_in g).hot block) → IsTrue ((counts_in g).hot other)
    → IsFalse (interferes (blocks g.table) block other))

-- At every moment the lease machine has each lease that is out as it was given or last renewed,
-- whatever other workers did meanwhile. So its worker's work begins with what the machine gave.
abbrev pub LentLeasesAreOut : Type 0
LentLeasesAreOut =
    (g : GraphValue) (shared : Option ℕ) (views : List View) → (yard : IsYard g shared views)
    → (worker : ℕ) (lease : LeaseValue) → yard.lent worker ≡ Some lease
    → (yard.machine.counts.leases worker ≡ Some (grant_of lease))
    × (leased_store lease ≡ lent_store (setup_in g) lease.block yard.machine.store
    (yard.machine.given worker))

-- What a pass has seen begins the journal at every moment. Its own events are all that its worker
-- has in the journal, and it has seen them.
abbrev pub ViewsBeginTheHistory : Type 0
ViewsBeginTheHistory =
    (g : GraphValue) (view : View) → IsAt g view → IsTrue view.journal.is_live
    → StartsWith g.table.journal view.journal.seen
    × IsShareOf g.table.journal view.journal.seen view.journal.own

-- A lease may come back as it was lent.
abbrev pub LentLeasesMayComeBack : Type 0
LentLeasesMayComeBack =
    (g : GraphValue) (view : View) → IsAt g view → IsTrue view.journal.is_live
    → (lease : LeaseValue) → view.lent ≡ Some lease → view.told ≡ None
    → (most_broken : ℕ) → IsBrought view most_broken lease

-- If a pass was answered that the search is over, it has seen the end.
abbrev pub EndsAreSeen : Type 0
EndsAreSeen =
    (worker : ℕ) (old new : View) (end : End) → Leases worker old (Over end) new
    → end_in new.journal.seen ≡ Some end

-- If a call adds no sign-off, a worker that hasn't signed off before it hasn't after it.
abbrev pub ActiveStay : Type 0
ActiveStay =
    (journal added : List Event) (lent : Option LeaseValue) (told : Option ℕ) (old new : View)
    → new ≡ view_then journal added lent told old
    → IsFalse (list_any is_off added) → IsActive old → IsActive new

-- After its own sign-off a worker has signed off.
abbrev pub SigningOffIsSeen : Type 0
SigningOffIsSeen =
    (worker : ℕ) (memory : Bool) (old new : View) → old.journal.own.worker ≡ worker
    → SignsOff worker memory old new
    → HasSignedOff new

-- A run in order and in time is one in order, and so a run.
abbrev pub RunsInTimeAreInOrder : Type 0
RunsInTimeAreInOrder =
    (setup : Setup) (room : ℕ → ℕ) (moves : List Move) (old new : Machine)
    → RunsInTime setup room old moves new
    → RunsInOrder setup old moves new × Runs setup old moves new

-- If a run in order and in time comes to an end other than by running out of memory, none of its
-- events reports that. No end stands before it.
abbrev pub OtherEndsHaveNoReport : Type 0
OtherEndsHaveNoReport =
    (setup : Setup) (greatest_cost : ℕ) (room : ℕ → ℕ) (moves : List Move) (old new : Machine)
    → IsSetup setup greatest_cost → IsLawful setup old → old.counts.end ≡ None
    → RunsInTime setup room old moves new
    → (end : End) → new.counts.end ≡ Some end → (end ≡ Memory → ⊥)
    → IsFalse (list_any is_report (journal_of moves))
