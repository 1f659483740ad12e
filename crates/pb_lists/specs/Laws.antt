-- The laws of this crate. Each is proved, as the contract of the public function that has its name.
use Rattle.std.specs.Prelude.{◌≡◌, ◌↔◌, ℕ, Some, true, nat_eq, slice_get}
use Rattle.std.specs.List.{IsDistinct}
use Rattle.std.specs.Map.{keys_of}
use Rattle.std.specs.declared.cmp.Ordering.TheVariants.{Less}
use Rattle.pb_model.specs.declared.key.Key.{Key}
use Rattle.pb_model.specs.declared.row.Row.{Row}
use Rattle.pb_model.specs.Key.{IsKeyBelow}
use Rattle.pb_model.specs.KeyOrder.{key_cmp, same_key}
use Rattle.pb_lists.specs.Bundle.{Content, row_of}

-- The comparison of two keys answers Less exactly if the first is below the second, and Equal
-- exactly if they are equal.
abbrev pub KeysAreOrdered : Type 0
KeysAreOrdered =
    (key other : Key) → ((key_cmp key other ≡ Less) ↔ IsKeyBelow key other)
    × ((same_key key other ≡ true) ↔ (key ≡ other))

-- If no state has two entries, as in every bundle, the entries are the states that have a row, with
-- their rows.
abbrev pub EntriesAreRows : Type 0
EntriesAreRows =
    (content : Content) → IsDistinct nat_eq (keys_of content.entries)
    → (state : ℕ) (row : Row) → (row_of content state ≡ Some row)
    ↔ ((i : ℕ) × (slice_get content.entries i ≡ Some (state, row)))
