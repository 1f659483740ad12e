-- Tables of values and traps, as a certificate can state them. Nothing is said of how they were
-- found.
use Rattle.std.specs.Prelude.{◌≡◌, ℕ, ◌+◌, ◌-◌, ◌*◌, ◌^◌, ◌<◌, ◌≤◌, List, [], length, All, Option, None, Some, slice_index, slice_index_or, if◌then◌else◌}
use Rattle.pb_task.specs.declared.parts.GroundAction.{GroundAction}
use Rattle.pb_tables.specs.Below.{greatest_below, sum_below}
use Rattle.pb_tables.specs.Images.{may_act, image_after, place_in}

-- What contracts see of a trap: the tracked atoms, as a set, and the images that it lists.
pub record TrapValue : Type 0 where
  pub tracked : ℕ
  pub listed : List ℕ

-- What contracts see of a table. The values of an image stand together, one for each sum, in the
-- order of the images.
pub record TableValue : Type 0 where
  pub tracked : ℕ
  pub listed : List ℕ
  pub values : List ℕ

-- What contracts see of tables: how many sums there are, the tables and the traps.
pub record TablesValue : Type 0 where
  pub sums : ℕ
  pub tables : List TableValue
  pub traps : List TrapValue

-- fewer than 2^63 images, and a value for each image and sum, none above 2^40
pub record IsTable (sums : ℕ) (table : TableValue) : Type 0 where
  pub listed_few : length table.listed < 2 ^ 63
  pub long : length table.values ≡ length table.listed * sums
  pub small : All (λ value. value ≤ 2 ^ 40) table.values

-- There are 1 to 64 sums, and at most 4,096 tables and 4,096 traps. Each lists fewer than 2^63
-- images.
pub record AreTables (tables : TablesValue) : Type 0 where
  pub some : 1 ≤ tables.sums
  pub few : tables.sums ≤ 64
  pub tables_few : length tables.tables ≤ 4096
  pub traps_few : length tables.traps ≤ 4096
  pub each : All (IsTable tables.sums) tables.tables
  pub traps_listed_few : All (λ trap. length trap.listed < 2 ^ 63) tables.traps

-- the table of a number, and one that lists nothing if there are fewer
abbrev pub table_at : List TableValue → (number : ℕ) → TableValue
table_at tables number =
    slice_index_or tables number (record { tracked = 0; listed = []; values = [] })

-- the trap of a number, and one that lists nothing if there are fewer
abbrev pub trap_at : List TrapValue → (number : ℕ) → TrapValue
trap_at traps number = slice_index_or traps number (record { tracked = 0; listed = [] })

-- the value, in a sum, of the image in a place
abbrev pub value_at : (sums : ℕ) → (values : List ℕ) → (sum place : ℕ) → ℕ
value_at sums values sum place = slice_index values (place * sums + sum)

-- 0 for an image that isn't listed
abbrev pub value_in : (sums : ℕ) → (values : List ℕ) → (sum : ℕ) → (place : Option ℕ) → ℕ
value_in sums values sum None = 0
value_in sums values sum (Some place) = value_at sums values sum place

-- ---- what an action lowers

-- by how much the action lowers the value of the image in a place; 0 if it may not be taken there
abbrev pub drop_at : (count sums : ℕ) → GroundAction → TableValue → (sum place : ℕ) → ℕ
drop_at count sums action table sum place =
    if may_act count table.tracked action (slice_index table.listed place)
    then value_at sums table.values sum place
    - value_in sums table.values sum (place_in table.listed
    (image_after count table.tracked action (slice_index table.listed place)))
    else 0

-- by how much the action lowers a value of the table at most
abbrev pub drop_of : (count sums : ℕ) → GroundAction → TableValue → (sum : ℕ) → ℕ
drop_of count sums action table sum =
    greatest_below (length table.listed) (drop_at count sums action table sum)

-- by how much the action lowers a sum over the first tables at most
abbrev pub drops_of : (count : ℕ) → GroundAction → (sums : ℕ) → List TableValue → (first sum : ℕ)
    → ℕ
drops_of count action sums tables first sum =
    sum_below first (λ number. drop_of count sums action (table_at tables number) sum)
