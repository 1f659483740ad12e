-- The rows at the front of a text, and how they are read piece by piece.
use Rattle.std.specs.Prelude.{ℕ, zero, suc, ◌+◌, Bool, true, Option, None, Some, List, [], ◌∷◌, ◌++◌, length, Result, Ok, Err, if◌then◌else◌, nat_lt, ◌==◌, codes}
use Rattle.pb_model.specs.Certificate.{Line}
use Rattle.pb_check.specs.declared.fault.CertificateFault.{CertificateFault}
use Rattle.pb_check.specs.declared.fault.CertificateFault.TheVariants.{Syntax}
use Rattle.pb_check.specs.Faults.{◌>>=◌}
use Rattle.pb_model.specs.Weight.{Weight}
use Rattle.pb_model.specs.Plan.{Plan}
use Rattle.pb_estimate.specs.declared.spelling.Spelling.{Spelling}
use Rattle.pb_check.specs.Reading.{Text, number_at, head_at, weight_at, plan_at, row_at, end_at, plan_lines, weight_line, first_line}

-- rows, and the text after them
abbrev pub RowsThen : Type 0
RowsThen = List Line × List ℕ

abbrev pub given : {A : Type 0} → Result A CertificateFault → Option A
given (Ok x) = Some x
given (Err fault) = None

-- the row that a text begins with, and the text after it, if it begins with one
abbrev pub row_front : (width : ℕ) → List ℕ → Option (Line × List ℕ)
row_front width text = given (row_at width 0 text)

abbrev pub prepend : Line → RowsThen → RowsThen
prepend row found = (row ∷ found.0, found.1)

abbrev pub rows_after : (more : List ℕ → RowsThen) → (text : List ℕ) → Option (Line × List ℕ)
    → RowsThen
rows_after more text None = ([], text)
rows_after more text (Some first) = prepend first.0 (more first.1)

-- at most so many rows at the front of a text, and the text after them
unfoldable pub rows_within : (width most : ℕ) → (text : List ℕ) → RowsThen
rows_within width zero text = ([], text)
rows_within width (suc most) text =
    rows_after (rows_within width most) text (row_front width text)

-- the rows at the front of a text, and the text from the first line on that is no row
abbrev pub rows_while : (width : ℕ) → (text : List ℕ) → RowsThen
rows_while width text = rows_within width (length text) text

-- whether so many rows from this line on are as many as stated, and the end follows them
abbrev pub ending : (count line found : ℕ) → (rest : List ℕ) → Result Bool CertificateFault
ending count line found rest =
    if nat_lt found count then Err (Syntax (line + found))
    else (if nat_lt count found then Err (Syntax (line + count)) else end_at (line + count) rest)

-- what that many rows from this line on and the end are, by the rows at the front of the text
abbrev pub body_of : (count line : ℕ) → RowsThen → Result (List Line) CertificateFault
body_of count line found = ending count line (length found.0) found.1 >>= λ ended. Ok found.0

-- ---- two pieces

-- the text is empty, or ends with a line feed
abbrev pub is_whole : List ℕ → Bool
is_whole [] = true
is_whole (b ∷ []) = b == 10
is_whole (b ∷ c ∷ bs) = is_whole (c ∷ bs)

-- what was found in a piece, and what in the text after it, if nothing of the piece was left
abbrev pub joined_by : (rows : List Line) → (rest after : List ℕ) → (next : RowsThen) → RowsThen
joined_by rows [] after next = (rows ++ next.0, next.1)
joined_by rows (b ∷ bs) after next = (rows, b ∷ bs ++ after)

abbrev pub joined : (found : RowsThen) → (after : List ℕ) → (next : RowsThen) → RowsThen
joined found after next = joined_by found.0 found.1 after next

-- ---- a text by its front and its rows

-- all that a text says before its rows, with how many they are and the number of the first one's
-- line
pub record Front : Type 0 where
  pub spelling : Spelling
  pub weight : Weight
  pub plan : Option Plan
  pub count : ℕ
  pub first : ℕ

-- what is read before the rows, and the text after it
unfoldable pub front_at : List ℕ → Result (Front × List ℕ) CertificateFault
front_at bytes = do
  head ← head_at bytes
  weight ← weight_at (weight_line head.0) head.1
  plan ← plan_at (weight_line head.0 + 1) weight.1
  count ← number_at (weight_line head.0 + 1 + plan_lines plan.0) (codes "rows ") plan.1
  Ok (
    record {
      spelling = head.0;
      weight = weight.0;
      plan = plan.0;
      count = count.0;
      first = first_line head.0 plan.0;
    },
    count.1,
  )

abbrev pub text_with : Front → List Line → Text
text_with front rows = record {
  spelling = front.spelling;
  certificate = record {
    weight = front.weight;
    plan = front.plan;
    lines = rows;
  };
  first = front.first;
}

-- what a text says, by what is read before the rows and the rows that were found behind it
abbrev pub text_by : Front → RowsThen → Result Text CertificateFault
text_by front found = body_of front.count front.first found >>= λ rows. Ok (text_with front rows)
