-- Tables that are written: what contracts see of them.
use Rattle.std.specs.Prelude.{◌≡◌, ℕ, ◌+◌, ◌^◌, ◌<◌, ◌≤◌, List, length, slice_index}
use Rattle.pb_packed.specs.Sizes.{most_digits}
use Rattle.pb_tables.specs.Tables.{TablesValue}
use Rattle.pb_table_lines.specs.Lines.{listings, tables_lines, tables_text, lines_before}

-- tables and traps, and how many hexadecimal digits an image has
pub record StatedTables : Type 0 where
  pub digits : ℕ
  pub tables : TablesValue

-- where the lines of each table and trap begin, and how many lines there are
pub record AreStarts (tables : TablesValue) (starts : List ℕ) : Type 0 where
  pub long : length starts ≡ length (listings tables) + 1
  pub each : (list : ℕ) → list ≤ length (listings tables)
      → slice_index starts list ≡ lines_before tables list
  pub small : lines_before tables (length (listings tables)) < 2 ^ 78

-- the digits of an image are as many as a state may have, and the starts are those of the tables
pub record IsIndexed (digits : ℕ) (tables : TablesValue) (starts : List ℕ) : Type 0 where
  pub some : 1 ≤ digits
  pub most : digits ≤ most_digits
  pub starts_are : AreStarts tables starts

abbrev pub stated_lines : StatedTables → List (List ℕ)
stated_lines stated = tables_lines stated.digits stated.tables

abbrev pub stated_text : StatedTables → List ℕ
stated_text stated = tables_text stated.digits stated.tables
