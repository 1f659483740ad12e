-- The laws of this crate. Each is proved, as the contract of the public function that has its name.
use Rattle.std.specs.Prelude.{◌≡◌, List, Some, ◌⊎◌}
use Rattle.pb_machine.specs.declared.event.End.{End}
use Rattle.pb_machine.specs.declared.event.End.TheVariants.{Quiet, Budget}
use Rattle.pb_machine.specs.Room.{KeepsWithinRoom}
use Rattle.pb_machine.specs.Machine.{Move, journal_of}
use Rattle.pb_lease.specs.GraphValue.{GraphValue, IsLeaseGraph}
use Rattle.pb_yard.specs.declared.view.View.{View}
use Rattle.pb_yard.specs.Calls.{IsClosed}
use Rattle.pb_search.specs.Ends.{EndsFrom}

-- Let a yard be closed whose search ended, quietly or by its budget. Then the run that began with the
-- yard's first graph ended so, by moves whose events are the journal.
abbrev pub ClosedYardsHaveEnded : Type 0
ClosedYardsHaveEnded =
    (view : View) (g : GraphValue) (end : End) → IsLeaseGraph view.begin → IsClosed view g
    → KeepsWithinRoom g.table.journal → g.table.end ≡ Some end → (end ≡ Quiet) ⊎ (end ≡ Budget)
    → (moves : List Move) × (journal_of moves ≡ g.table.journal) × EndsFrom view.begin end moves
