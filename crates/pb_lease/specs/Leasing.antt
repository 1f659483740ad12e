-- Which blocks may be leased, by the numbers alone.
use Rattle.std.specs.Prelude.{ℕ, Bool, not, ◌&&◌, nat_lt, is_none}
use Rattle.pb_machine.specs.declared.settings.Settings.{Settings}
use Rattle.pb_machine.specs.Blocks.{Blocks}
use Rattle.pb_machine.specs.Counts.{Counts, is_taken, is_near_hot}

-- Whether the block may be leased if it has an Opened row. The search has not ended, and something
-- is left of the budget. No hot block is in the block's interference, and its scope has no block in
-- common with a leased one.
abbrev pub can_be_leased : Blocks → Settings → Counts → (block : ℕ) → Bool
can_be_leased of settings counts block =
    is_none counts.end && nat_lt 0 counts.left && not (is_near_hot of counts.hot block)
    && not (is_taken of settings.workers counts.leases block)

-- whether no hot block is in the block's interference, and its scope has no block in common with a
-- leased one
abbrev pub is_clear : Blocks → (workers : ℕ) → Counts → (block : ℕ) → Bool
is_clear of workers counts block =
    not (is_near_hot of counts.hot block) && not (is_taken of workers counts.leases block)
