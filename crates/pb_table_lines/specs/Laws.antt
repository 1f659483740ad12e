-- The laws of this crate. Each is proved, as the contract of the public function that has its name.
use Rattle.std.specs.Prelude.{◌≡◌, ℕ, ◌^◌, ◌≤◌, List, ◌++◌, Ok, IsTrue}
use Rattle.pb_task.specs.declared.parts.StripsParts.{StripsParts}
use Rattle.pb_tables.specs.Tables.{TablesValue, AreTables}
use Rattle.pb_tables.specs.Suits.{suit}
use Rattle.pb_table_lines.specs.Lines.{tables_text}
use Rattle.pb_table_lines.specs.Reading.{tables_at, tables_reading}
use Rattle.pb_table_lines.specs.Spelling.{CanBeStated}

-- What is written is read again, whatever follows it, and nothing else is read.
pub record TablesAreReadAsWritten : Type 0 where
  pub read : (digits line : ℕ) (tables : TablesValue) (rest : List ℕ) → CanBeStated digits tables
      → tables_at digits line (tables_text digits tables ++ rest) ≡ Ok (tables, rest)
  pub written : (digits line : ℕ) (text : List ℕ) (tables : TablesValue) (rest : List ℕ)
      → tables_at digits line text ≡ Ok (tables, rest)
      → (text ≡ tables_text digits tables ++ rest) × CanBeStated digits tables
  pub alone : (digits : ℕ) (bytes : List ℕ) (tables : TablesValue)
      → (tables_reading digits bytes ≡ Ok tables
      → (bytes ≡ tables_text digits tables) × CanBeStated digits tables)
      × (bytes ≡ tables_text digits tables → CanBeStated digits tables
      → tables_reading digits bytes ≡ Ok tables)

-- Tables that suit a task can be stated by digits that have a bit for each atom of the task.
abbrev pub SuitingTablesCanBeStated : Type 0
SuitingTablesCanBeStated =
    (strips : StripsParts) (tables : TablesValue) (digits : ℕ) → AreTables tables
    → IsTrue (suit strips tables) → 2 ^ strips.atoms ≤ 16 ^ digits → CanBeStated digits tables
