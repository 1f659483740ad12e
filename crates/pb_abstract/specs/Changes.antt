-- What actions do to the tracked atoms, as three sets of these.
use Rattle.std.specs.Prelude.{ℕ, Bool, not, List, Option, None, Some, ◌==◌, ◌&&◌, if◌then◌else◌, bit_and, bit_or}
use Rattle.std.specs.Int.{bit_not, w32}
use Rattle.pb_task.specs.declared.parts.GroundAction.{GroundAction}
use Rattle.pb_abstract.specs.Tracked.{tracked_set}
use Rattle.pb_abstract.specs.declared.changes.Change.{Change}

abbrev pub change_of : (atoms : List ℕ) → GroundAction → Change
change_of atoms action =
    record {
      needs = tracked_set atoms action.needs;
      adds = tracked_set atoms action.adds;
      deletes = tracked_set atoms action.deletes;
    }

-- some tracked atom is added or deleted
abbrev pub changes_some : Change → Bool
changes_some change = not (change.adds == 0 && change.deletes == 0)

-- the block that a change leads to from a block, if the atoms that it needs hold there
abbrev pub block_after : Change → (block : ℕ) → Option ℕ
block_after change block =
    if bit_and change.needs block == change.needs then Some
    (bit_or change.adds (bit_and block (bit_not w32 change.deletes))) else None
