-- Rows in a few words, and which rows fit them.
use Rattle.std.specs.Prelude.{ℕ, ◌*◌, ◌^◌, ◌<◌, Bool, Option, None, Some, if◌then◌else◌}
use Rattle.pb_model.specs.declared.row.Estimate.{Estimate}
use Rattle.pb_model.specs.declared.row.Estimate.TheVariants.{Cost, Dead}
use Rattle.pb_model.specs.declared.row.Row.{Row}

abbrev pub parent_of : (has_parent : Bool) (words : ℕ) → Option ℕ
parent_of has_parent words = if has_parent then Some words else None

abbrev pub estimate_of : (is_dead : Bool) (estimate : ℕ) → Estimate
estimate_of is_dead estimate = if is_dead then Dead else Cost estimate

-- the number fits so many words
abbrev pub FitsWords : (width number : ℕ) → Type 0
FitsWords width number = number < 2 ^ (64 * width)

abbrev pub FitsParent : (width : ℕ) → Option ℕ → Type 0
FitsParent width None = Unit {0}
FitsParent width (Some state) = FitsWords width state

abbrev pub FitsEstimate : Estimate → Type 0
FitsEstimate (Cost h) = h < 2 ^ 32
FitsEstimate Dead = Unit {0}

-- the row fits a narrow one, whose parent has so many words
pub record IsNarrow (width : ℕ) (row : Row) : Type 0 where
  pub g : row.g < 2 ^ 32
  pub estimate : FitsEstimate row.estimate
  pub parent : FitsParent width row.parent
