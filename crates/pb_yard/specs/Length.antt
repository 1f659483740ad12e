-- How long the journal of a run can be. Each law is proved, as the contract of the public function
-- that has its name.
use Rattle.std.specs.Prelude.{◌≡◌, ℕ, ◌+◌, ◌*◌, ◌≤◌, length, is_some, List, Some}
use Rattle.pb_machine.specs.declared.event.End.TheVariants.{Memory}
use Rattle.pb_machine.specs.Settings.{AreInRange}
use Rattle.pb_machine.specs.Tables.{count_below}
use Rattle.pb_machine.specs.Counts.{Counts}
use Rattle.pb_machine.specs.History.{AreFinished}
use Rattle.pb_machine.specs.Room.{leases_in, no_room, KeepsWithinRoom}
use Rattle.pb_machine.specs.Machine.{Setup, IsSetup, Machine, opening_machine, Move, journal_of}
use Rattle.pb_machine.specs.Lawful.{broken_leases}
use Rattle.pb_yard.specs.Order.{RunsInTime}

-- how many leases are out
abbrev pub leases_out : (workers : ℕ) → Counts → ℕ
leases_out workers counts = count_below workers (λ worker. is_some (counts.leases worker))

-- The greatest number of leases. It depends on the actions, the settled expansions, the leases that
-- came back out of memory, and the leases that are out. The start has one Opened row, and an
-- expansion brings at most one for each action. Each lease that came back without such a report
-- closed one.
abbrev pub most_leases : (actions spent broken out : ℕ) → ℕ
most_leases actions spent broken out = 1 + actions * spent + (1 + actions) * broken + out

-- how many events a finished run can have that didn't run out of memory: 65 a lease, a sign-off of
-- each worker, and the end
abbrev pub most_events : (actions spent workers : ℕ) → ℕ
most_events actions spent workers = 65 * (1 + actions * spent) + workers + 1

-- A run in time from the opening has few leases, at each moment. So no run is padded by leases that
-- have nothing to do. If it finished, and didn't run out of memory, it has at most one lease more
-- than the expansions can have brought rows.
abbrev pub LeasesAreFew : Type 0
LeasesAreFew =
    (setup : Setup) (greatest_cost : ℕ) (moves : List Move) (machine : Machine)
    → IsSetup setup greatest_cost → setup.reopenings ≡ 0
    → RunsInTime setup no_room (opening_machine setup) moves machine
    → (leases_in (journal_of moves) ≤ most_leases setup.space.actions machine.counts.spent
    (broken_leases setup machine) (leases_out setup.settings.workers machine.counts))
    × (AreFinished setup.settings machine.counts → (machine.counts.end ≡ Some Memory → ⊥)
    → leases_in (journal_of moves) ≤ 1 + setup.space.actions * machine.counts.spent)

-- So if a run keeps within the room of its leases, its journal is short.
abbrev pub RunsAreShort : Type 0
RunsAreShort =
    (setup : Setup) (greatest_cost : ℕ) (moves : List Move) (machine : Machine)
    → IsSetup setup greatest_cost → setup.reopenings ≡ 0
    → AreInRange setup.settings → RunsInTime setup no_room (opening_machine setup) moves machine
    → KeepsWithinRoom (journal_of moves)
    → AreFinished setup.settings machine.counts → (machine.counts.end ≡ Some Memory → ⊥)
    → length (journal_of moves) ≤ most_events setup.space.actions machine.counts.spent
    setup.settings.workers
