-- Worked rows. The tables and the task of one action are those of `pb_tables`.
use Rattle.std.specs.Prelude.{◌≡◌, ℕ, List, [], ◌∷◌, ◌++◌, Option, Some, Ok, Err, codes}
use Rattle.pb_model.specs.Texts.{line, lines}
use Rattle.pb_tables.specs.Tables.{TablesValue}
use Rattle.pb_tables.specs.Suits.{tables_fault}
use Rattle.pb_tables.specs.Examples.{example, table_with, one_table, two_sums, one_trap}
use Rattle.pb_table_lines.specs.Lines.{tables_lines, fault_line}
use Rattle.pb_table_lines.specs.Reading.{tables_at, tables_reading}

-- one table of the atoms 0 and 1: the start's image has the value 3, and the goal's 0
abbrev pub first_lines : List (List ℕ)
first_lines = codes "estimate tables 1 1 0" ∷ codes "table 3 2" ∷ []

abbrev pub one_table_lines : List (List ℕ)
one_table_lines = first_lines ++ codes "1 3" ∷ codes "2 0" ∷ []

abbrev pub two_sums_lines : List (List ℕ)
two_sums_lines =
    codes "estimate tables 2 1 0" ∷ codes "table 3 2" ∷ codes "1 2 3" ∷ codes "2 0 0" ∷ []

abbrev pub trap_lines : List (List ℕ)
trap_lines =
    codes "estimate tables 1 0 1" ∷ codes "trap 7 3" ∷ codes "1" ∷ codes "2" ∷ codes "4" ∷ []

-- these tables are written so, with one digit for an image
pub record ExamplesAreWritten : Type 0 where
  pub table : tables_lines 1 (one_table (3 ∷ 0 ∷ [])) ≡ one_table_lines
  pub sums : tables_lines 1 (two_sums 2 3) ≡ two_sums_lines
  pub trap : tables_lines 1 (one_trap 7 (1 ∷ 2 ∷ 4 ∷ [])) ≡ trap_lines

-- the text of the first line, which states one table, and another line
abbrev pub with_second : List ℕ → List ℕ
with_second text = lines (codes "estimate tables 1 1 0" ∷ text ∷ [])

-- the text of the first two lines, and these
abbrev pub with_images_of : (first second : List ℕ) → List ℕ
with_images_of first second = lines (first_lines ++ first ∷ second ∷ [])

-- What is read of lines, or their first line that isn't spelled as it must be.
pub record ExamplesAreRead : Type 0 where
  pub table : tables_reading 1 (lines one_table_lines) ≡ Ok (one_table (3 ∷ 0 ∷ []))
  pub sums : tables_reading 1 (lines two_sums_lines) ≡ Ok (two_sums 2 3)
  pub trap : tables_reading 1 (lines trap_lines) ≡ Ok (one_trap 7 (1 ∷ 2 ∷ 4 ∷ []))
  pub nothing : tables_reading 1 [] ≡ Err 1
  pub no_sums : tables_reading 1 (line (codes "estimate tables 0 0 0")) ≡ Err 1
  pub many_sums : tables_reading 1 (line (codes "estimate tables 65 0 0")) ≡ Err 1
  pub padded : tables_reading 1 (line (codes "estimate tables 01 0 0")) ≡ Err 1
  pub a_word : tables_reading 1 (with_second (codes "trap 3 0")) ≡ Err 2
  pub too_wide : tables_reading 1 (with_second (codes "table 03 0")) ≡ Err 2
  pub upper_case : tables_reading 1 (with_second (codes "table A 0")) ≡ Err 2
  pub no_value : tables_reading 1 (with_images_of (codes "1") (codes "2 0")) ≡ Err 3
  pub two_values : tables_reading 1 (with_images_of (codes "1 3 3") (codes "2 0")) ≡ Err 3
  pub too_great : tables_reading 1 (lines (first_lines ++ codes "1 1099511627777" ∷ [])) ≡ Err 3
  pub missing : tables_reading 1 (lines (first_lines ++ codes "1 3" ∷ [])) ≡ Err 4
  pub unended : tables_reading 1 (lines (first_lines ++ codes "1 3" ∷ []) ++ codes "2 0") ≡ Err 4
  pub follows : tables_reading 1 (lines (one_table_lines ++ codes "3 0" ∷ [])) ≡ Err 5
  -- a certificate goes on, and has four lines before
  pub weight_follows : tables_at 1 5 (lines one_table_lines ++ line (codes "weight 1 1"))
      ≡ Ok (one_table (3 ∷ 0 ∷ []), line (codes "weight 1 1"))
  pub fifth : tables_at 1 5 (lines first_lines) ≡ Err 7

-- one table of one sum with these images
abbrev pub with_images : (listed values : List ℕ) → TablesValue
with_images listed values = record {
  sums = 1;
  tables = record { tracked = 3; listed = listed; values = values } ∷ [];
  traps = [];
}

-- a trap behind a table
abbrev pub with_trap : (tracked : ℕ) → (listed : List ℕ) → TablesValue
with_trap tracked listed = record {
  sums = 1;
  tables = table_with 1 2 (3 ∷ 0 ∷ []) ∷ [];
  traps = record { tracked = tracked; listed = listed } ∷ [];
}

abbrev pub line_at_fault : TablesValue → Option ℕ
line_at_fault tables = fault_line tables (tables_fault example tables)

-- In which line tables of the task don't suit it.
pub record ExamplesAreFound : Type 0 where
  -- `2 1` stands in place of `2 0`
  pub goal_with_value : line_at_fault (with_images (1 ∷ 2 ∷ []) (3 ∷ 1 ∷ [])) ≡ Some 4
  -- `2 0` is left out
  pub leads_out : line_at_fault (with_images (1 ∷ []) (3 ∷ [])) ≡ Some 3
  -- the last two lines are exchanged
  pub exchanged : line_at_fault (with_images (2 ∷ 1 ∷ []) (0 ∷ 3 ∷ [])) ≡ Some 4
  -- the trap's first line, and its first image
  pub trap_of_another_task : line_at_fault (with_trap 4 []) ≡ Some 5
  pub way_out : line_at_fault (with_trap 2 (0 ∷ [])) ≡ Some 6
