-- Worked journals. One worker, and then two, look for a cheapest path over a map of 3 by 3 land
-- cells, from first to last. Each cell is a block of its own. One worker goes along a corridor
-- until its budget is spent. The first search is also made by switches. Other journals differ from these in a few places. A journal's text has
-- six lines before its first event, which is thus on line 7.
use Rattle.std.specs.Prelude.{◌≡◌, ℕ, ◌+◌, Bool, true, false, ◌&&◌, ◌||◌, ◌==◌, not, nat_lt, length, List, [], ◌∷◌, ◌++◌, Some}
use Rattle.std.specs.List.{AllByRecursion}
use Rattle.pb_machine.specs.declared.event.End.{End}
use Rattle.pb_machine.specs.declared.event.End.TheVariants.{Quiet, Budget, Memory}
use Rattle.pb_machine.specs.declared.event.Event.{Event}
use Rattle.pb_machine.specs.declared.event.Event.TheVariants.{Lease, Renew, Hot, Cold, Release, Off, Ended}
use Rattle.pb_machine.specs.declared.event.EventRefusal.{EventRefusal}
use Rattle.pb_machine.specs.declared.event.EventRefusal.TheVariants.{Worker, Holds, Block, Scope, Quota, NoEnd, Trouble, Ended as HasEnded, Hot as IsHot}
use Rattle.pb_machine.specs.declared.settings.Settings.{Settings}
use Rattle.pb_machine.specs.Settings.{standard}
use Rattle.pb_machine.specs.Blocks.{Blocks}
use Rattle.pb_machine.specs.Counts.{Counts, opening_counts}
use Rattle.pb_machine.specs.History.{IsHistory, AreFinished, first_refused}
use Rattle.pb_machine.specs.Machine.{Move, event_move, switch_move}

-- whether the one cell is directly left of the other or above it; cells are numbered row by row
abbrev pub is_before : (cell other : ℕ) → Bool
is_before cell other =
    (other == cell + 3) || ((other == cell + 1) && not ((other == 3) || (other == 6)))

abbrev pub nine_cells : Blocks
nine_cells =
    record {
      count = 9;
      scope =
          λ block other. nat_lt block 9
          && (nat_lt other 9 && ((block == other)
          || (is_before block other || is_before other block)));
    }

abbrev pub one_worker : Settings
one_worker = standard

-- a block that is leased and comes back after so many expansions
abbrev pub visit : (block used : ℕ) → List Event
visit block used = Lease 0 block 256 ∷ Release 0 used false ∷ []

abbrev pub later_visits : List Event
later_visits = visit 1 1 ++ visit 2 1 ++ visit 5 1 ++ visit 8 0 ++ visit 4 0 ++ visit 3 0

abbrev pub ending : List Event
ending = Ended Quiet ∷ Off 0 false ∷ []

abbrev pub nine_cells_journal : List Event
nine_cells_journal = visit 0 1 ++ later_visits ++ ending

-- Sixteen blocks in a row, as of a corridor of 64 cells, four to a block. One worker has a budget
-- of 5 expansions and a lot of 2. It leases the first block, renews that lease once, and has one
-- expansion left for the second block.
abbrev pub corridor : Blocks
corridor =
    record {
      count = 16;
      scope = λ block other. nat_lt block 16
          && (nat_lt other 16 && (nat_lt block (other + 2) && nat_lt other (block + 2)));
    }

abbrev pub short_budget : Settings
short_budget = record one_worker { budget = 5; lot = 2; wish = 16 }

abbrev pub first_block : List Event
first_block = Lease 0 0 2 ∷ Renew 0 2 2 ∷ Release 0 2 false ∷ []

abbrev pub corridor_journal : List Event
corridor_journal = first_block ++ Lease 0 1 1 ∷ Release 0 1 false ∷ Ended Budget ∷ Off 0 false ∷ []

abbrev pub two_workers : Settings
two_workers = record one_worker { workers = 2 }

-- The search over nine cells by two workers, up to the point at which both have a lease. Worker 1
-- then marks its block's rival hot, the block of the middle cell, and takes the mark away when
-- worker 0 is back.
abbrev pub both_out : List Event
both_out = visit 0 1 ++ visit 1 1 ++ Lease 0 2 256 ∷ Lease 1 3 256 ∷ []

abbrev pub hot_and_cold : List Event
hot_and_cold = Hot 1 4 ∷ Release 0 1 false ∷ Cold 1 4 ∷ Release 1 1 false ∷ []

abbrev pub both_out_again : List Event
both_out_again = Lease 0 5 256 ∷ Lease 1 6 256 ∷ Release 0 1 false ∷ Release 1 1 false ∷ []

abbrev pub two_workers_journal : List Event
two_workers_journal =
    both_out ++ hot_and_cold ++ both_out_again ++ visit 8 0 ++ visit 7 0 ++ visit 4 0 ++ Ended Quiet
    ∷ Off 0 false ∷ Off 1 false ∷ []

-- both workers report out of memory, one before the end that follows from it and one after
abbrev pub both_report : List Event
both_report =
    both_out ++ Release 1 1 true ∷ Ended Memory ∷ Release 0 1 true ∷ Off 0 true ∷ Off 1 false ∷ []

-- ---- switches

-- The search of one worker over the nine cells, by moves. The worker leases the first block,
-- switches six times, and brings the last block back. The journal is `nine_cells_journal`.
abbrev pub switches : List Move
switches =
    event_move (Lease 0 0 256) ∷ switch_move 0 1 1 256 ∷ switch_move 0 1 2 256
    ∷ switch_move 0 1 5 256 ∷ switch_move 0 1 8 256 ∷ switch_move 0 0 4 256 ∷ switch_move 0 0 3 256
    ∷ []

abbrev pub nine_cells_moves : List Move
nine_cells_moves =
    switches ++ event_move (Release 0 0 false) ∷ event_move (Ended Quiet) ∷ event_move (Off 0 false)
    ∷ []

-- The worker has the first block, and has marked block 2 hot. Its release makes block 2 cold, so it
-- may then lease block 4, which is near block 2. In one switch that is never in order: with the hot
-- blocks as before, block 4 is hidden.
abbrev pub marked : List Event
marked = Lease 0 0 256 ∷ Hot 0 2 ∷ []

abbrev pub back_and_next : List Event
back_and_next = Release 0 1 false ∷ Lease 0 4 256 ∷ []

-- ---- what is said of journals

-- the journal is a finished legal history of this many events, with this end and so many expansions
abbrev pub IsFinishedHistory : Blocks → Settings → List Event → (events : ℕ) → End → (spent : ℕ)
    → Type 0
IsFinishedHistory blocks settings journal events end spent =
    (length journal ≡ events)
    × ((counts : Counts) × IsHistory blocks settings 0 journal counts × AreFinished settings counts
    × (counts.end ≡ Some end) × (counts.spent ≡ spent))

-- the journal is refused on this line, for this reason
abbrev pub IsRefused : Blocks → Settings → List Event → (line : ℕ) → EventRefusal → Type 0
IsRefused blocks settings journal line why =
    first_refused blocks settings (opening_counts settings 0) 7 journal ≡ Some (line, why)

-- without its last line the journal is a legal history that is not finished
abbrev pub IsUnfinishedHistory : Blocks → Settings → List Event → Type 0
IsUnfinishedHistory blocks settings journal =
    (counts : Counts) × IsHistory blocks settings 0 journal counts
    × (AreFinished settings counts → ⊥)

abbrev pub plain_worker : Settings
plain_worker = record one_worker { plain = true }

-- the journal with this event in place of its first one, its second one, or its end
abbrev pub with_first : Event → List Event
with_first event = event ∷ Release 0 1 false ∷ later_visits ++ ending

abbrev pub with_second : Event → List Event
with_second event = Lease 0 0 256 ∷ event ∷ later_visits ++ ending

abbrev pub with_hot : (block : ℕ) → List Event
with_hot block = Lease 0 0 256 ∷ Hot 0 block ∷ Release 0 1 false ∷ later_visits ++ ending

-- settings, a journal, the line on which it is refused, and why
abbrev pub refused_journals : List (Settings × List Event × ℕ × EventRefusal)
refused_journals =
    (one_worker, with_first (Lease 1 0 256), 7, Worker)
    ∷ (one_worker, with_first (Lease 0 9 256), 7, Block)
    ∷ (one_worker, with_first (Lease 0 0 255), 7, Quota)
    ∷ (one_worker, with_first (Renew 0 1 256), 7, Holds)
    ∷ (plain_worker, with_hot 1, 8, IsHot)
    ∷ (one_worker, with_hot 8, 8, IsHot)
    ∷ (one_worker, with_second (Release 0 1 true), 9, Trouble)
    ∷ (one_worker, with_second (Release 0 257 false), 8, Quota)
    ∷ (two_workers, with_second (Lease 1 1 256), 8, Scope)
    ∷ (one_worker, visit 0 1 ++ later_visits ++ Off 0 false ∷ [], 21, NoEnd)
    ∷ (one_worker, visit 0 1 ++ later_visits ++ Ended Budget ∷ Off 0 false ∷ [], 21, Quota)
    ∷ (one_worker, nine_cells_journal ++ Off 0 false ∷ [], 23, Worker)
    ∷ (one_worker, nine_cells_journal ++ Lease 0 0 256 ∷ [], 23, HasEnded)
    ∷ (two_workers, Lease 0 0 256 ∷ Hot 0 4 ∷ Lease 1 8 256 ∷ [], 9, IsHot)
    ∷ (two_workers, Lease 0 0 256 ∷ Hot 0 4 ∷ Renew 0 1 256 ∷ [], 9, IsHot)
    ∷ (two_workers, Lease 0 0 256 ∷ Cold 0 4 ∷ [], 8, IsHot)
    ∷ (one_worker, Off 0 true ∷ Lease 0 0 256 ∷ [], 8, Trouble)
    ∷ (one_worker, Ended Memory ∷ [], 7, Trouble)
    ∷ []

-- the same in the corridor
abbrev pub refused_in_corridor : List (Settings × List Event × ℕ × EventRefusal)
refused_in_corridor =
    (short_budget, Lease 0 0 2 ∷ Renew 1 2 2 ∷ [], 8, Worker)
    ∷ (short_budget, Lease 0 0 2 ∷ Renew 0 3 2 ∷ [], 8, Quota)
    ∷ (short_budget, Lease 0 0 2 ∷ Renew 0 2 3 ∷ [], 8, Quota)
    ∷ (short_budget, Lease 0 0 2 ∷ Renew 0 1 1 ∷ [], 8, Quota)
    ∷ (short_budget, Lease 0 0 2 ∷ Renew 0 2 2 ∷ Release 0 3 false ∷ [], 9, Quota)
    ∷ (short_budget, first_block ++ Lease 0 1 2 ∷ [], 10, Quota)
    ∷ (short_budget, Lease 0 0 2 ∷ Renew 0 2 2 ∷ Release 0 1 false ∷ Lease 0 1 1 ∷ [], 10, Quota)
    ∷ (short_budget, first_block ++ Ended Budget ∷ [], 10, Quota)
    ∷ (short_budget, first_block ++ Lease 0 1 1 ∷ Ended Budget ∷ [], 11, Holds)
    ∷ (short_budget, first_block ++ Lease 0 1 1 ∷ Renew 0 1 1 ∷ [], 11, Quota)
    ∷ (short_budget, first_block ++ Lease 0 1 1 ∷ Renew 0 1 0 ∷ [], 11, Quota)
    ∷ (short_budget, first_block ++ Lease 0 1 1 ∷ Release 0 1 false ∷ Lease 0 1 0 ∷ [], 12, Quota)
    ∷ (short_budget, corridor_journal ++ Ended Quiet ∷ [], 14, HasEnded)
    ∷ (short_budget, corridor_journal ++ Ended Budget ∷ [], 14, HasEnded)
    ∷ (short_budget, corridor_journal ++ Ended Memory ∷ [], 14, HasEnded)
    ∷ (short_budget, corridor_journal ++ Renew 0 1 1 ∷ [], 14, HasEnded)
    ∷ (short_budget, corridor_journal ++ Hot 0 1 ∷ [], 14, HasEnded)
    ∷ (short_budget, corridor_journal ++ Cold 0 1 ∷ [], 14, HasEnded)
    ∷ (short_budget, corridor_journal ++ Release 0 0 false ∷ [], 14, Worker)
    ∷ []

-- and of two workers over the nine cells, both of which have a lease on line 13
abbrev pub refused_of_two : List (Settings × List Event × ℕ × EventRefusal)
refused_of_two =
    (two_workers, both_out ++ Lease 2 8 256 ∷ [], 13, Worker)
    ∷ (two_workers, both_out ++ Lease 0 8 256 ∷ [], 13, Holds)
    ∷ (two_workers, both_out ++ Hot 2 4 ∷ [], 13, Worker)
    ∷ (two_workers, both_out ++ Cold 2 4 ∷ [], 13, Worker)
    ∷ (two_workers, both_out ++ Release 2 1 false ∷ [], 13, Worker)
    ∷ (two_workers, both_out ++ Off 2 true ∷ [], 13, Worker)
    ∷ (two_workers, both_out ++ Hot 0 9 ∷ [], 13, Block)
    ∷ (two_workers, both_out ++ Cold 0 9 ∷ [], 13, Block)
    ∷ (two_workers, both_out ++ Cold 0 4 ∷ [], 13, IsHot)
    ∷ (two_workers, both_out ++ Hot 1 3 ∷ [], 13, IsHot)
    ∷ (two_workers, both_out ++ Off 1 false ∷ [], 13, Holds)
    ∷ (two_workers, both_out ++ Off 1 true ∷ [], 13, Holds)
    ∷ (two_workers, both_out ++ Ended Quiet ∷ [], 13, Holds)
    ∷ (two_workers, both_out ++ Ended Budget ∷ [], 13, Holds)
    ∷ (two_workers, both_out ++ Hot 1 4 ∷ Hot 0 4 ∷ [], 14, IsHot)
    ∷ (two_workers, both_out ++ Hot 1 4 ∷ Renew 1 1 256 ∷ [], 14, IsHot)
    ∷ (two_workers, both_out ++ Hot 1 4 ∷ Release 0 1 false ∷ Lease 0 8 256 ∷ [], 15, IsHot)
    ∷ (
      two_workers,
      both_out ++ Hot 1 4 ∷ Release 0 1 false ∷ Release 1 1 false ∷ Lease 0 8 256
          ∷ Lease 1 7 256 ∷ [],
      17,
      Scope,
    )
    ∷ (two_workers, both_out ++ Hot 1 4 ∷ Hot 0 1 ∷ Cold 1 4 ∷ [], 15, IsHot)
    ∷ (two_workers, both_out ++ hot_and_cold ++ Cold 1 4 ∷ [], 17, Holds)
    ∷ (two_workers, both_out ++ hot_and_cold ++ Hot 1 4 ∷ [], 17, Holds)
    ∷ (two_workers, both_out ++ hot_and_cold ++ Renew 1 1 256 ∷ [], 17, Holds)
    ∷ (two_workers, both_out ++ hot_and_cold ++ Release 1 1 false ∷ [], 17, Holds)
    ∷ (two_workers, both_out ++ hot_and_cold ++ Off 1 false ∷ [], 17, NoEnd)
    ∷ (two_workers, both_out ++ Release 1 1 true ∷ Release 0 1 true ∷ [], 14, Trouble)
    ∷ (two_workers, both_out ++ Release 1 1 true ∷ Ended Quiet ∷ [], 14, Trouble)
    ∷ (two_workers, both_report ++ Off 1 true ∷ [], 18, Worker)
    -- if several tests are true, the first one decides
    ∷ (two_workers, two_workers_journal ++ Lease 2 9 0 ∷ [], 30, HasEnded)
    ∷ (two_workers, both_out ++ Lease 2 9 0 ∷ [], 13, Worker)
    ∷ (two_workers, both_out ++ Lease 1 9 0 ∷ [], 13, Holds)
    ∷ (two_workers, visit 0 1 ++ Lease 0 2 256 ∷ Lease 1 9 0 ∷ [], 10, Block)
    ∷ (two_workers, visit 0 1 ++ Lease 0 2 256 ∷ Hot 0 0 ∷ Lease 1 1 0 ∷ [], 11, Scope)
    ∷ (two_workers, visit 0 1 ++ Lease 0 2 256 ∷ Hot 0 4 ∷ Lease 1 3 0 ∷ [], 11, IsHot)
    ∷ (two_workers, both_out ++ Hot 1 4 ∷ Renew 1 257 0 ∷ [], 14, IsHot)
    ∷ (two_workers, both_out ++ Release 2 257 true ∷ [], 13, Worker)
    ∷ (two_workers, both_out ++ Release 1 1 true ∷ Lease 2 9 0 ∷ [], 14, Trouble)
    ∷ []

abbrev pub AreRefused : Blocks → List (Settings × List Event × ℕ × EventRefusal) → Type 0
AreRefused blocks rows = AllByRecursion (λ row. IsRefused blocks row.0 row.1 row.2 row.3) rows
