-- What the tables keep: a legal history, the counters beside the sets, and room in the journal for
-- events that must not fail for lack of memory.
use Rattle.std.specs.Prelude.{◌≡◌, ℕ, ◌+◌, ◌<◌, ◌≤◌, length, Bool, false, IsTrue, not, if◌then◌else◌, is_none, is_some, List, Option, get_or}
use Rattle.std.specs.List.{sum_by}
use Rattle.pb_machine.specs.declared.event.End.{End}
use Rattle.pb_machine.specs.declared.event.Grant.{Grant}
use Rattle.pb_machine.specs.Blocks.{Blocks}
use Rattle.pb_machine.specs.Tables.{one_if}
use Rattle.pb_machine.specs.Counters.{busy_count, hot_count}
use Rattle.pb_machine.specs.History.{IsHistory}
use Rattle.pb_machine.specs.Room.{room_after, KeepsWithinRoom}
use Rattle.pb_lease.specs.declared.seat.Seat.{Seat}
use Rattle.pb_lease.specs.Tables.{Table, seat_of, blocks, counts_of, rooms}

-- the counters by block are the numbers of leased blocks in each interference
pub record AreBusy (of : Blocks) (workers : ℕ) (leases : ℕ → Option Grant) (busy : List ℕ) : Type 0
  where
    pub places : length busy ≡ of.count
    pub counted : (block : ℕ) → block < of.count → get_or busy block 0
        ≡ busy_count of workers leases block

-- the counters by block are the numbers of hot blocks in each interference
pub record AreMarks (of : Blocks) (hot : List Bool) (near : List ℕ) : Type 0 where
  pub few : of.count ≤ 4096
  pub hot_places : length hot ≡ of.count
  pub near_places : length near ≡ of.count
  pub counted : (block : ℕ) → block < of.count → get_or near block 0
      ≡ hot_count of (λ other. get_or hot other false) block

-- how many events of a worker may still come for which the journal must have room: those of its
-- lease with its return, and its signing off
abbrev pub due_of : Seat → ℕ
due_of seat = (if is_some seat.grant then seat.room + 1 else 0) + one_if (not seat.signed_off)

-- the same of all workers, and one end
abbrev pub due : List Seat → Option End → ℕ
due seats end = sum_by due_of seats + one_if (is_none end)

-- The seats have no more room than the journal leaves. They have less after a worker went on to
-- another block at once: its new lease has what was left of the room, and no whole one.
abbrev pub HasRoomLeft : Table → Type 0
HasRoomLeft table = (worker : ℕ) → rooms table worker ≤ room_after table.journal worker

-- What holds of the tables, of the counters beside them, of the number of events that are due, and
-- of the room in the journal. Each event was within the room of its worker's lease, and the seats
-- have no more room than the journal leaves.
pub record IsKept (table : Table) (busy near : List ℕ) (promised spare : ℕ) : Type 0 where
  pub seats : length table.seats ≡ table.settings.workers
  pub rooms : (worker : ℕ) → (seat_of table.seats worker).room ≤ 63
  pub own : (block : ℕ) → block < (blocks table).count → IsTrue ((blocks table).scope block block)
  pub busy_is : AreBusy (blocks table) table.settings.workers (counts_of table).leases busy
  pub marks : AreMarks (blocks table) table.hot near
  pub history : IsHistory (blocks table) table.settings table.past.spent table.journal
      (counts_of table)
  pub within : KeepsWithinRoom table.journal
  pub left : HasRoomLeft table
  pub promised_is : promised ≡ due table.seats table.end
  pub room : promised ≤ spare
