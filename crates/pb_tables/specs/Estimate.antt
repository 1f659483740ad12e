-- The estimate of a state by tables and traps.
use Rattle.std.specs.Prelude.{ℕ, Bool, List, length, Option, is_some, is_none, if◌then◌else◌}
use Rattle.pb_model.specs.declared.row.Estimate.{Estimate}
use Rattle.pb_model.specs.declared.row.Estimate.TheVariants.{Cost, Dead}
use Rattle.pb_task.specs.declared.parts.StripsParts.{StripsParts}
use Rattle.pb_tables.specs.Below.{any_below, greatest_below, sum_below}
use Rattle.pb_tables.specs.Images.{both, place_in}
use Rattle.pb_tables.specs.Tables.{TrapValue, TableValue, TablesValue, table_at, trap_at, value_in}

-- the trap has the state's image
abbrev pub catches : (count : ℕ) → (state : ℕ) → TrapValue → Bool
catches count state trap = is_some (place_in trap.listed (both count state trap.tracked))

-- some trap has the state's image
abbrev pub is_trapped : (count : ℕ) → List TrapValue → (state : ℕ) → Bool
is_trapped count traps state =
    any_below (length traps) (λ number. catches count state (trap_at traps number))

-- where a table lists the state's image
abbrev pub place_of : (count : ℕ) → (state : ℕ) → TableValue → Option ℕ
place_of count state table = place_in table.listed (both count state table.tracked)

-- one of the first tables doesn't list the state's image
abbrev pub is_unlisted : (count : ℕ) → List TableValue → (first state : ℕ) → Bool
is_unlisted count tables first state =
    any_below first (λ number. is_none (place_of count state (table_at tables number)))

-- the sum of the values of the state's images in the first tables
abbrev pub sum_of : (count sums : ℕ) → List TableValue → (first state sum : ℕ) → ℕ
sum_of count sums tables first state sum =
    sum_below first (λ number. value_in sums (table_at tables number).values sum
    (place_of count state (table_at tables number)))

-- Dead if a trap has the state's image. Else the greatest sum of the values of its images, and 0 if
-- one of these isn't listed.
unfoldable pub tables_estimate : StripsParts → TablesValue → (state : ℕ) → Estimate
tables_estimate strips tables state =
    if is_trapped strips.atoms tables.traps state then Dead
    else (if is_unlisted strips.atoms tables.tables (length tables.tables) state then Cost 0
    else Cost (greatest_below tables.sums (sum_of strips.atoms tables.sums tables.tables
    (length tables.tables) state)))
