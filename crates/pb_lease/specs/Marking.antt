-- When a block may be marked hot, and a mark be taken away.
use Rattle.std.specs.Prelude.{ℕ, Bool, not, ◌&&◌, nat_lt, is_none}
use Rattle.pb_machine.specs.Counts.{is_busy}
use Rattle.pb_lease.specs.Tables.{Table, blocks, counts_of, rooms}

-- The search has not ended, and blocks may be hot. This one isn't hot and is busy, and no better
-- block of its interference is hot. The worker has room.
abbrev pub may_be_marked : Table → (worker block : ℕ) → (outranked : Bool) → Bool
may_be_marked table worker block outranked =
    is_none table.end && not table.settings.plain && not ((counts_of table).hot block)
    && is_busy (blocks table) table.settings.workers (counts_of table).leases block && not outranked
    && nat_lt 0 (rooms table worker)

-- The search has not ended, the block is hot, and the worker has room.
abbrev pub may_be_cooled : Table → (worker block : ℕ) → Bool
may_be_cooled table worker block =
    is_none table.end && (counts_of table).hot block && nat_lt 0 (rooms table worker)
