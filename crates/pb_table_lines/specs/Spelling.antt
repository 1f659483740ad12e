-- Which tables lines of so many digits can state.
use Rattle.std.specs.Prelude.{ℕ, ◌^◌, ◌<◌, List, length, All}
use Rattle.pb_tables.specs.Tables.{TablesValue, AreTables}

-- the tracked atoms and the images have so many digits, and the count of the images can be stated
pub record FitDigits (digits tracked : ℕ) (listed : List ℕ) : Type 0 where
  pub tracked_small : tracked < 16 ^ digits
  pub few : length listed < 2 ^ 63
  pub small : All (λ image. image < 16 ^ digits) listed

-- tables and traps within their limits, whose images have so many digits
pub record CanBeStated (digits : ℕ) (tables : TablesValue) : Type 0 where
  pub lawful : AreTables tables
  pub tables_fit : All (λ table. FitDigits digits table.tracked table.listed) tables.tables
  pub traps_fit : All (λ trap. FitDigits digits trap.tracked trap.listed) tables.traps
