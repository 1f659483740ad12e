-- How a list of images is written: the code looks an image up by halving, since images rise.
use Rattle.std.specs.Prelude.{◌≡◌, ℕ, ◌^◌, ◌<◌, suc, List, length, slice_index}
use Rattle.pb_tables.specs.Images.{both}
use Rattle.pb_tables.specs.Tables.{TrapValue, TableValue, table_at, trap_at}

-- each number is above the one before it
abbrev pub AreRising : List ℕ → Type 0
AreRising listed =
    (place : ℕ) → suc place < length listed
    → slice_index listed place < slice_index listed (suc place)

-- The tracked atoms are atoms of the task, and the images are of tracked atoms and rise.
pub record IsWritten (count tracked : ℕ) (listed : List ℕ) : Type 0 where
  pub small : tracked < 2 ^ count
  pub tracked_alone : (place : ℕ) → place < length listed
      → both count (slice_index listed place) tracked ≡ slice_index listed place
  pub rising : AreRising listed

pub record AreWritten (count : ℕ) (tables : List TableValue) : Type 0 where
  pub each : (number : ℕ) → number < length tables
      → IsWritten count (table_at tables number).tracked (table_at tables number).listed

pub record AreTrapsWritten (count : ℕ) (traps : List TrapValue) : Type 0 where
  pub each : (number : ℕ) → number < length traps
      → IsWritten count (trap_at traps number).tracked (trap_at traps number).listed
