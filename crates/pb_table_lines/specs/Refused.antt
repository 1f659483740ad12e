-- Texts that state no tables: which line is refused, and why no other end of the text would help.
use Rattle.std.specs.Prelude.{◌≡◌, ◌⊎◌, ℕ, ◌+◌, true, List, [], ◌∷◌, ◌++◌, length, Ok, Err}
use Rattle.pb_lines.specs.Words.{has_none, line_feeds}
use Rattle.pb_tables.specs.Tables.{TablesValue}
use Rattle.pb_table_lines.specs.Lines.{tables_lines, tables_text}
use Rattle.pb_table_lines.specs.Reading.{tables_at}
use Rattle.pb_table_lines.specs.Spelling.{CanBeStated}

-- each line has its line feed
abbrev pub AreWholeLines : List ℕ → Type 0
AreWholeLines text = (text ≡ []) ⊎ ((front : List ℕ) × (text ≡ front ++ 10 ∷ []))

-- the text of some tables begins with these lines
abbrev pub MayBegin : (digits : ℕ) → List ℕ → Type 0
MayBegin digits before =
    (tables : TablesValue) × (more : List ℕ) × CanBeStated digits tables
    × (tables_text digits tables ≡ before ++ more)

-- The first line with which no tables are read: the text of some tables begins with the lines before
-- it. Whatever follows them and this line, if it is there and has its line feed, it is refused.
pub record IsRefused (digits line : ℕ) (text : List ℕ) (refused : ℕ) : Type 0 where
  pub before : List ℕ
  pub behind : List ℕ
  pub text_is : text ≡ before ++ behind
  pub whole : AreWholeLines before
  pub place : refused ≡ line + line_feeds before
  pub begins : MayBegin digits before
  pub stuck : (first rest after : List ℕ) → behind ≡ first ++ 10 ∷ rest → has_none 10 first ≡ true
      → tables_at digits line (before ++ (first ++ 10 ∷ after)) ≡ Err refused

-- The line that is refused is the first with which no tables are read. A text of tables has as many
-- line feeds as lines, and ends with one.
pub record RefusedLinesAreFirst : Type 0 where
  pub first : (digits line : ℕ) (text : List ℕ) (refused : ℕ)
      → tables_at digits line text ≡ Err refused → IsRefused digits line text refused
  pub whole : (digits : ℕ) (tables : TablesValue) → CanBeStated digits tables
      → AreWholeLines (tables_text digits tables)
  pub counted : (digits : ℕ) (tables : TablesValue) (rest : List ℕ) → CanBeStated digits tables
      → line_feeds (tables_text digits tables ++ rest)
      ≡ length (tables_lines digits tables) + line_feeds rest

-- Where tables are read from a text, they are read from its beginning too, or this is cut off and
-- refused in the line that it ends in.
abbrev pub CutTablesAreRefused : Type 0
CutTablesAreRefused =
    (digits line : ℕ) (start rest : List ℕ) (tables : TablesValue) (after : List ℕ)
    → tables_at digits line (start ++ rest) ≡ Ok (tables, after)
    → ((left : List ℕ) × (tables_at digits line start ≡ Ok (tables, left)) × (after ≡ left ++ rest)
    × (line_feeds start ≡ length (tables_lines digits tables) + line_feeds left))
    ⊎ (tables_at digits line start ≡ Err (line + line_feeds start))
