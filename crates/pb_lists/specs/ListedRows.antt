-- What contracts see of a table of rows.
use Rattle.std.specs.Prelude.{◌≡◌, ◌≤◌, ◌*◌, ◌^◌, ℕ, Option, Some, None, List, nat_eq}
use Rattle.pb_model.specs.declared.row.Row.{Row}
use Rattle.pb_lists.specs.Bundle.{row_in}
use Rattle.pb_lists.specs.NarrowRow.{FitsWords, IsNarrow}

pub record ListedRows : Type 0 where
  pub entries : List (ℕ × Row)  -- each state that has a row, with its row, in order of insertion
  pub width : Option ℕ  -- how many words a state and a parent have, or None if all rows have a place
  pub room : ℕ  -- at least so many more states get rows without more memory

-- no state that doesn't fit so many words has a row
abbrev pub HasWords : (width : ℕ) → List (ℕ × Row) → Type 0
HasWords width entries = (state : ℕ) → 2 ^ (64 * width) ≤ state → row_in entries state ≡ None

abbrev pub HasPlaceAt : (width : Option ℕ) → ℕ → Row → Type 0
HasPlaceAt None state row = Unit {0}
HasPlaceAt (Some width) state row = (FitsWords width state) × (IsNarrow width row)

-- the table has a place for a state with this row
abbrev pub HasPlaceFor : ListedRows → ℕ → Row → Type 0
HasPlaceFor rows state row = HasPlaceAt rows.width state row

-- what has a place at so many words has one at this width
abbrev pub IsAtLeast : (width : Option ℕ) → ℕ → Type 0
IsAtLeast None words = Unit {0}
IsAtLeast (Some width) words = words ≤ width
