-- The line of a row by the row's place.
use Rattle.std.specs.Prelude.{◌≡◌, ℕ, false, Option, None, Some, List, length, slice_get}
use Rattle.std.specs.Borrow.{Bor}
use Rattle.pb_model.specs.declared.row.Row.{Row}
use Rattle.pb_model.specs.Store.{Rows}
use Rattle.pb_model.specs.Certificate.{Line, line_of}
use Rattle.pb_lists.specs.Bundle.{Content, row_of}
use Rattle.pb_cert.specs.declared.rows.Place.{Place}

-- the line of a row that is in a bundle with its state
abbrev pub entry_line : ℕ × Row → Line
entry_line entry = line_of entry.0 entry.1

-- the line of zeros, which is that of a place without a row
abbrev pub no_line : Line
no_line = record { state = 0; g = 0; is_closed = false }

abbrev pub line_or : Option (ℕ × Row) → Line
line_or None = no_line
line_or (Some entry) = entry_line entry

-- the line of the row in this place of a part
abbrev pub line_in : Content → (at : ℕ) → Line
line_in content at = line_or (slice_get content.entries at)

abbrev pub line_in_part : Option (Bor Content) → (at : ℕ) → Line
line_in_part None at = no_line
line_in_part (Some part) at = line_in part.now at

-- the line of the row in this place of the parts
abbrev pub line_at : (parts : List (Bor Content)) → Place → Line
line_at parts place = line_in_part (slice_get parts place.part) place.at

-- the bundles are the parts of these rows, so many and each under its number
pub record ArePartsOf (rows : Rows) (count : ℕ) (parts : List (Bor Content)) : Type 0 where
  pub many : length parts ≡ count
  pub same : (i : ℕ) (part : Bor Content) → slice_get parts i ≡ Some part → (state : ℕ)
      → row_of part.now state ≡ rows i state
