-- Reading lines that state tables and traps, up to the first line that isn't spelled as it must be.
use Rattle.std.specs.Prelude.{ℕ, zero, suc, ◌+◌, ◌^◌, Bool, Option, None, Some, List, [], ◌∷◌, ◌++◌, length, map, take, drop, Result, Ok, Err, if◌then◌else◌, nat_le, ◌==◌, ◌&&◌, codes}
use Rattle.pb_lines.specs.Words.{part, behind, number_of}
use Rattle.pb_tables.specs.Tables.{TrapValue, TableValue, TablesValue}
use Rattle.pb_table_lines.specs.Words.{state_of, word_of, behind_word}
use Rattle.pb_table_lines.specs.Lines.{tables_lines}

-- goes on with what the first gave, or ends with its line
infixl 10 ◌>>=◌
abbrev pub ◌>>=◌ : {A B : Type 0} → Result A ℕ → (A → Result B ℕ) → Result B ℕ
(Ok x) >>= f = f x
(Err line) >>= f = Err line

-- what a line needs, or else that line
abbrev pub wanted : {A : Type 0} → (line : ℕ) → Option A → Result A ℕ
wanted line None = Err line
wanted line (Some x) = Ok x

-- a line and the text after it; a last line without an end is none
abbrev pub line_at : (line : ℕ) → List ℕ → Result (List ℕ × List ℕ) ℕ
line_at line text = wanted line (part 10 text)

-- ---- what a line says

-- how many sums, tables and traps there are
pub record StatedCounts : Type 0 where
  pub sums : ℕ
  pub tables : ℕ
  pub traps : ℕ

abbrev pub counted : (sums tables traps : ℕ) → StatedCounts
counted sums tables traps = record { sums = sums; tables = tables; traps = traps }

-- 1 to 64 sums, and at most 4,096 tables and 4,096 traps
abbrev pub are_few : StatedCounts → Bool
are_few counts =
    nat_le 1 counts.sums
    && (nat_le counts.sums 64 && (nat_le counts.tables 4096 && nat_le counts.traps 4096))

unfoldable pub counts_in : (line : ℕ) → List ℕ → Result StatedCounts ℕ
counts_in line text = do
  words ← wanted line (behind (codes "estimate tables ") text)
  first ← wanted line (part 32 words)
  second ← wanted line (part 32 first.1)
  sums ← wanted line (number_of first.0)
  tables ← wanted line (number_of second.0)
  traps ← wanted line (number_of second.1)
  if are_few (counted sums tables traps) then Ok (counted sums tables traps) else Err line

-- the tracked atoms of a table or trap, and how many images it has
unfoldable pub list_in : (digits : ℕ) → (word : List ℕ) → (line : ℕ) → List ℕ → Result (ℕ × ℕ) ℕ
list_in digits word line text = do
  words ← wanted line (behind word text)
  parts ← wanted line (part 32 words)
  tracked ← wanted line (state_of digits parts.0)
  count ← wanted line (number_of parts.1)
  Ok (tracked, count)

-- a value, which is at most 2^40
unfoldable pub value_in : (line : ℕ) → List ℕ → Result ℕ ℕ
value_in line word = do
  value ← wanted line (number_of word)
  if nat_le value (2 ^ 40) then Ok value else Err line

-- so many values, each behind a blank, and nothing after them
unfoldable pub values_in : (count line : ℕ) → List ℕ → Result (List ℕ) ℕ
values_in zero line text = if length text == 0 then Ok [] else Err line
values_in (suc count) line text = do
  words ← wanted line (behind (32 ∷ []) text)
  value ← value_in line (word_of words)
  others ← values_in count line (behind_word words)
  Ok (value ∷ others)

-- an image of so many digits, and its values
unfoldable pub image_in : (digits sums line : ℕ) → List ℕ → Result (ℕ × List ℕ) ℕ
image_in digits sums line text = do
  image ← wanted line (state_of digits (take digits text))
  values ← values_in sums line (drop digits text)
  Ok (image, values)

-- ---- the lines of a text, one after another: what was read, and the text after it

-- StatedImages and their values, those of one image after another.
pub record StatedImages : Type 0 where
  pub listed : List ℕ
  pub values : List ℕ

-- that many images, one a line
unfoldable pub images_at : (digits sums count line : ℕ) → List ℕ → Result (StatedImages × List ℕ) ℕ
images_at digits sums zero line text = Ok (record { listed = []; values = [] }, text)
images_at digits sums (suc count) line text = do
  first ← line_at line text
  image ← image_in digits sums line first.0
  others ← images_at digits sums count (line + 1) first.1
  Ok (
    record {
      listed = image.0 ∷ others.0.listed;
      values = image.1 ++ others.0.values;
    },
    others.1,
  )

-- a table or a trap; a trap is read as a table without values
unfoldable pub list_at : (digits : ℕ) → (word : List ℕ) → (sums line : ℕ) → List ℕ
    → Result (TableValue × List ℕ) ℕ
list_at digits word sums line text = do
  first ← line_at line text
  list ← list_in digits word line first.0
  images ← images_at digits sums list.1 (line + 1) first.1
  Ok (
    record {
      tracked = list.0;
      listed = images.0.listed;
      values = images.0.values;
    },
    images.1,
  )

-- that many tables or traps
unfoldable pub lists_at : (digits : ℕ) → (word : List ℕ) → (sums count line : ℕ) → List ℕ
    → Result (List TableValue × List ℕ) ℕ
lists_at digits word sums zero line text = Ok ([], text)
lists_at digits word sums (suc count) line text = do
  first ← list_at digits word sums line text
  others ← lists_at digits word sums count (line + 1 + length first.0.listed) first.1
  Ok (first.0 ∷ others.0, others.1)

-- how many lines state these tables or traps
abbrev pub lines_of_lists : List TableValue → ℕ
lines_of_lists [] = 0
lines_of_lists (list ∷ lists) = 1 + length list.listed + lines_of_lists lists

-- a trap as it is read, and a trap that was read so
abbrev pub of_trap : TrapValue → TableValue
of_trap trap = record { tracked = trap.tracked; listed = trap.listed; values = [] }

abbrev pub trap_of : TableValue → TrapValue
trap_of list = record { tracked = list.tracked; listed = list.listed }

-- Tables and traps, whose first line has this number, and the text after them.
unfoldable pub tables_at : (digits line : ℕ) → List ℕ → Result (TablesValue × List ℕ) ℕ
tables_at digits line text = do
  first ← line_at line text
  counts ← counts_in line first.0
  tables ← lists_at digits (codes "table ") counts.sums counts.tables (line + 1) first.1
  traps ← lists_at digits (codes "trap ") 0 counts.traps (line + 1 + lines_of_lists tables.0)
      tables.1
  Ok (
    record {
      sums = counts.sums;
      tables = tables.0;
      traps = map trap_of traps.0;
    },
    traps.1,
  )

-- Tables and traps with nothing after them. Lines are counted from 1. A line that is missing, isn't
-- ended or follows has the number after the last right line.
unfoldable pub tables_reading : (digits : ℕ) → List ℕ → Result TablesValue ℕ
tables_reading digits bytes = do
  read ← tables_at digits 1 bytes
  if length read.1 == 0 then Ok read.0 else Err (1 + length (tables_lines digits read.0))
