-- The tables of the lease machine, and the counts that they represent.
use Rattle.std.specs.Prelude.{ℕ, ◌+◌, Bool, false, List, Option, None, get_or}
use Rattle.pb_machine.specs.declared.event.End.{End}
use Rattle.pb_machine.specs.declared.event.Event.{Event}
use Rattle.pb_machine.specs.declared.settings.Settings.{Settings}
use Rattle.pb_machine.specs.Blocks.{Blocks}
use Rattle.pb_machine.specs.Counts.{Counts}
use Rattle.pb_abstract.specs.Graph.{AbstractGraph, blocks_of}
use Rattle.pb_lease.specs.declared.past.Past.{Past}
use Rattle.pb_lease.specs.declared.seat.Seat.{Seat}

-- what a caller sees of the tables
pub record Table : Type 0 where
  pub abstraction : AbstractGraph
  pub settings : Settings
  pub past : Past  -- what earlier runs on the same rows did
  pub seats : List Seat  -- by worker
  pub hot : List Bool  -- by block
  pub spent : ℕ
  pub left : ℕ
  pub end : Option End
  pub journal : List Event

-- what a first run has behind it
abbrev pub no_past : Past
no_past = record { reopenings = 0; spent = 0 }

-- what the next run on the same rows has behind it
abbrev pub past_after : Table → Past
past_after table = record { reopenings = table.past.reopenings + 1; spent = table.spent }

-- what a worker has that hasn't had a lease yet
abbrev pub vacant : Seat
vacant = record { grant = None; room = 0; signed_off = false }

abbrev pub seat_of : List Seat → (worker : ℕ) → Seat
seat_of seats worker = get_or seats worker vacant

-- the blocks of the tables
abbrev pub blocks : Table → Blocks
blocks table = blocks_of table.abstraction

-- The counts of the tables. No out-of-memory report waits in them, since the end that follows from
-- one comes in the same call.
abbrev pub counts_of : Table → Counts
counts_of table =
    record {
      leases = λ worker. (seat_of table.seats worker).grant;
      hot = λ block. get_or table.hot block false;
      signed_off = λ worker. (seat_of table.seats worker).signed_off;
      spent = table.spent;
      left = table.left;
      end = table.end;
      trouble = false;
    }

-- for how many events of each worker there is room in the journal, beside the return of its lease
-- and its signing off
abbrev pub rooms : Table → (worker : ℕ) → ℕ
rooms table worker = (seat_of table.seats worker).room
