-- The turns of a best-first search with one worker: which row it takes next, and what becomes of
-- it.
use Rattle.std.specs.Prelude.{ℕ}
use Rattle.pb_model.specs.declared.row.Row.{Row}
use Rattle.pb_model.specs.Guide.{Guide}
use Rattle.pb_model.specs.Store.{Store, MayBeCut}
use Rattle.pb_model.specs.Key.{IsFirstRow}
use Rattle.pb_model.specs.Work.{Work, expand, break_off, cut, take_goal, lower, reopen}

-- the state has the first Opened row of its part of the store
abbrev pub IsFirst : Guide → Store → (state : ℕ) → Type 0
IsFirst guide store state =
    (row : Row) × IsFirstRow store.weight (store.rows (guide.home state)) state row

-- the state has the first Opened row of its part of the store, and that row may not be cut
abbrev pub IsFirstToKeep : Guide → Store → (state : ℕ) → Type 0
IsFirstToKeep guide store state =
    (row : Row) × IsFirstRow store.weight (store.rows (guide.home state)) state row
    × ¬ MayBeCut store.weight store.incumbent row.g row.estimate

-- The work is a turn in the order of a best-first search: it is on the first Opened row. A row that
-- may be cut is cut. Of the others a goal's row is taken, and any other row is expanded (by `May` a
-- goal is never expanded).
abbrev pub IsTurn : Guide → Store → Work → Type 0
IsTurn guide store (cut own) = IsFirst guide store own
IsTurn guide store (take_goal own) = IsFirstToKeep guide store own
IsTurn guide store (expand own) = IsFirstToKeep guide store own
IsTurn guide store (break_off own offers) = ⊥
IsTurn guide store (lower cost) = ⊥
IsTurn guide store (reopen weight) = ⊥
