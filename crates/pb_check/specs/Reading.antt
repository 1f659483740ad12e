-- Reading a certificate from its first byte to its last, with the first line that is not spelled as
-- it must be.
use Rattle.std.specs.Prelude.{ℕ, zero, suc, ◌+◌, Bool, true, false, Option, None, Some, List, [], ◌∷◌, length, Result, Ok, Err, if◌then◌else◌, nat_le, ◌==◌, ◌&&◌, is_some, codes}
use Rattle.pb_packed.specs.Sizes.{version_1_digits, most_digits}
use Rattle.pb_model.specs.Weight.{Weight}
use Rattle.pb_model.specs.Plan.{Plan}
use Rattle.pb_model.specs.Certificate.{Line, Certificate}
use Rattle.pb_task.specs.declared.kind.Kind.{Kind}
use Rattle.pb_task.specs.declared.kind.Kind.TheVariants.{Grid, Tiles, Strips}
use Rattle.pb_task.specs.declared.grounding.Grounding.{Grounding}
use Rattle.pb_task.specs.declared.grounding.Grounding.TheVariants.{All, Reachable}
use Rattle.pb_task.specs.declared.parts.TaskParts.{TaskParts}
use Rattle.pb_tables.specs.Tables.{TablesValue}
use Rattle.pb_table_lines.specs.Reading.{tables_at}
use Rattle.pb_estimate.specs.Choices.{Choice, Plain, Pattern, Tables}
use Rattle.pb_estimate.specs.Estimates.{suits}
use Rattle.pb_estimate.specs.declared.spelling.Stated.{Stated}
use Rattle.pb_estimate.specs.declared.spelling.Spelling.{Spelling}
use Rattle.pb_estimate.specs.declared.spelling.Version.{Version}
use Rattle.pb_estimate.specs.declared.spelling.Version.TheVariants.{One, Two, Three, Four}
use Rattle.pb_estimate.specs.Spelling.{version_line, kind_line, width_text, grounding_line, plain_line, head_lines}
use Rattle.pb_check.specs.declared.fault.CertificateFault.{CertificateFault}
use Rattle.pb_check.specs.declared.fault.CertificateFault.TheVariants.{Syntax}
use Rattle.pb_check.specs.Faults.{◌>>=◌, wanted}
use Rattle.pb_lines.specs.Words.{part, behind, is_text, number_of}
use Rattle.pb_check.specs.Words.{state_of}

-- a line and the text after it; a last line without an end is none
abbrev pub line_at : (line : ℕ) → List ℕ → Result (List ℕ × List ℕ) CertificateFault
line_at line text = wanted line (part 10 text)

-- ---- what a line says

-- the number after this piece
abbrev pub number_behind : (line : ℕ) → (piece text : List ℕ) → Result ℕ CertificateFault
number_behind line piece text =
    wanted line (behind piece text) >>= λ word. wanted line (number_of word)

unfoldable pub version_in : (line : ℕ) → List ℕ → Result Version CertificateFault
version_in line text =
    if is_text (version_line One) text then Ok One
    else (if is_text (version_line Two) text then Ok Two
    else (if is_text (version_line Three) text then Ok Three
    else (if is_text (version_line Four) text then Ok Four else Err (Syntax line))))

unfoldable pub kind_in : (line : ℕ) → List ℕ → Result Kind CertificateFault
kind_in line text =
    if is_text (kind_line Grid) text then Ok Grid
    else (if is_text (kind_line Tiles) text then Ok Tiles
    else (if is_text (kind_line Strips) text then Ok Strips else Err (Syntax line)))

-- a kind of task that this version is for: version 4 is for STRIPS alone
abbrev pub kind_for : Version → (line : ℕ) → Kind → Result Kind CertificateFault
kind_for One line kind = Ok kind
kind_for Two line kind = Ok kind
kind_for Three line kind = Ok kind
kind_for Four line Grid = Err (Syntax line)
kind_for Four line Tiles = Err (Syntax line)
kind_for Four line Strips = Ok Strips

-- how many digits a state has, from 1 to 256
unfoldable pub width_in : (line : ℕ) → List ℕ → Result ℕ CertificateFault
width_in line text = do
  width ← number_behind line (codes "width ") text
  if nat_le 1 width && nat_le width most_digits then Ok width else Err (Syntax line)

-- which ground atoms and actions have numbers
unfoldable pub grounding_in : (line : ℕ) → List ℕ → Result Grounding CertificateFault
grounding_in line text =
    if is_text (grounding_line All) text then Ok All
    else (if is_text (grounding_line Reachable) text then Ok Reachable else Err (Syntax line))

-- the plain choice or a pattern, as a line of version 4 says it: the number of a pattern may be any
unfoldable pub estimate_in : (line : ℕ) → List ℕ → Result Choice CertificateFault
estimate_in line text =
    if is_text plain_line text then Ok Plain else (do
      number ← number_behind line (codes "estimate pattern ") text
      Ok (Pattern number))

unfoldable pub weight_in : (line : ℕ) → List ℕ → Result Weight CertificateFault
weight_in line text = do
  words ← wanted line (behind (codes "weight ") text)
  parts ← wanted line (part 32 words)
  num ← wanted line (number_of parts.0)
  den ← wanted line (number_of parts.1)
  Ok (record { num = num; den = den })

unfoldable pub closed_in : (line : ℕ) → List ℕ → Result Bool CertificateFault
closed_in line text =
    if is_text (codes "closed") text then Ok true
    else (if is_text (codes "cut") text then Ok false else Err (Syntax line))

-- a row whose state has so many digits
unfoldable pub row_in : (width line : ℕ) → List ℕ → Result Line CertificateFault
row_in width line text = do
  front ← wanted line (part 32 text)
  back ← wanted line (part 32 front.1)
  state ← wanted line (state_of width front.0)
  g ← wanted line (number_of back.0)
  is_closed ← closed_in line back.1
  Ok (record { state = state; g = g; is_closed = is_closed })

-- ---- the lines of a text, one after another: what was read, and the text after it

unfoldable pub fixed_at : (line : ℕ) → (piece text : List ℕ) → Result (List ℕ) CertificateFault
fixed_at line piece text = do
  first ← line_at line text
  if is_text piece first.0 then Ok first.1 else Err (Syntax line)

unfoldable pub number_at : (line : ℕ) → (piece text : List ℕ) → Result (ℕ × List ℕ) CertificateFault
number_at line piece text = do
  first ← line_at line text
  n ← number_behind line piece first.0
  Ok (n, first.1)

unfoldable pub version_at : (line : ℕ) → List ℕ → Result (Version × List ℕ) CertificateFault
version_at line text = do
  first ← line_at line text
  version ← version_in line first.0
  Ok (version, first.1)

-- the kind of task, in a text of this version
unfoldable pub kind_at : Version → (line : ℕ) → List ℕ → Result (Kind × List ℕ) CertificateFault
kind_at version line text = do
  first ← line_at line text
  kind ← kind_in line first.0 >>= kind_for version line
  Ok (kind, first.1)

-- the line that says how many digits a state has
unfoldable pub width_line_at : (line : ℕ) → List ℕ → Result (ℕ × List ℕ) CertificateFault
width_line_at line text = do
  first ← line_at line text
  width ← width_in line first.0
  Ok (width, first.1)

-- how many digits a state has: a line says it from version 2 on
unfoldable pub width_at : Version → (line : ℕ) → List ℕ → Result (ℕ × List ℕ) CertificateFault
width_at One line text = Ok (version_1_digits, text)
width_at Two line text = width_line_at line text
width_at Three line text = width_line_at line text
width_at Four line text = width_line_at line text

-- the line that says which ground atoms and actions have numbers
unfoldable pub grounding_at : (line : ℕ) → List ℕ → Result (Grounding × List ℕ) CertificateFault
grounding_at line text = do
  first ← line_at line text
  grounding ← grounding_in line first.0
  Ok (grounding, first.1)

-- the tables that were read, or the first line that isn't spelled so
abbrev pub tables_read : Result (TablesValue × List ℕ) ℕ → Result (Choice × List ℕ) CertificateFault
tables_read (Ok read) = Ok (Tables read.0, read.1)
tables_read (Err line) = Err (Syntax line)

-- The lines of version 4 that say the choice of an estimate. Those of tables have images of so many
-- digits.
unfoldable pub estimate_at : (width line : ℕ) → List ℕ → Result (Choice × List ℕ) CertificateFault
estimate_at width line text = do
  first ← line_at line text
  if is_some (behind (codes "estimate tables ") first.0)
      then tables_read (tables_at width line text)
      else (do
        choice ← estimate_in line first.0
        Ok (choice, first.1))

-- What is stated besides, where a state has so many digits. Version 4 says which ground atoms and
-- actions have numbers, and the choice of an estimate. Before that all of them have numbers, and no
-- line says so.
-- Version 3 has the number of a pattern, which may be any, in a line. Before that the choice is the
-- plain one, and no line says it.
unfoldable pub stated_at : Version → (width line : ℕ) → List ℕ
    → Result (Stated × List ℕ) CertificateFault
stated_at One width line text = Ok (record { grounding = All; choice = Plain }, text)
stated_at Two width line text = Ok (record { grounding = All; choice = Plain }, text)
stated_at Three width line text = do
  number ← number_at line (codes "pattern ") text
  Ok (record { grounding = All; choice = Pattern number.0 }, number.1)
stated_at Four width line text = do
  grounding ← grounding_at line text
  choice ← estimate_at width (line + 1) grounding.1
  Ok (record { grounding = grounding.0; choice = choice.0 }, choice.1)

-- the lines before the weight
unfoldable pub head_at : List ℕ → Result (Spelling × List ℕ) CertificateFault
head_at text = do
  version ← version_at 1 text
  kind ← kind_at version.0 2 version.1
  width ← width_at version.0 3 kind.1
  stated ← stated_at version.0 width.0 (3 + length (width_text version.0 width.0)) width.1
  Ok (
    record {
      kind = kind.0;
      version = version.0;
      width = width.0;
      stated = stated.0;
    },
    stated.1,
  )

unfoldable pub weight_at : (line : ℕ) → List ℕ → Result (Weight × List ℕ) CertificateFault
weight_at line text = do
  first ← line_at line text
  weight ← weight_in line first.0
  Ok (weight, first.1)

unfoldable pub row_at : (width line : ℕ) → List ℕ → Result (Line × List ℕ) CertificateFault
row_at width line text = do
  first ← line_at line text
  row ← row_in width line first.0
  Ok (row, first.1)

-- that many actions, one a line
unfoldable pub actions_at : (count line : ℕ) → List ℕ → Result (List ℕ × List ℕ) CertificateFault
actions_at zero line text = Ok ([], text)
actions_at (suc count) line text = do
  first ← number_at line [] text
  others ← actions_at count (line + 1) first.1
  Ok (first.0 ∷ others.0, others.1)

-- that many rows, one a line
unfoldable pub rows_at : (width count line : ℕ) → List ℕ
    → Result (List Line × List ℕ) CertificateFault
rows_at width zero line text = Ok ([], text)
rows_at width (suc count) line text = do
  first ← row_at width line text
  others ← rows_at width count (line + 1) first.1
  Ok (first.0 ∷ others.0, others.1)

-- a plan of that many steps, and its cost
unfoldable pub steps_at : (count line : ℕ) → List ℕ → Result (Plan × List ℕ) CertificateFault
steps_at count line text = do
  actions ← actions_at count line text
  cost ← number_at (line + length actions.0) (codes "cost ") actions.1
  Ok (record { actions = actions.0; cost = cost.0 }, cost.1)

-- the plan, or none
unfoldable pub plan_at : (line : ℕ) → List ℕ → Result (Option Plan × List ℕ) CertificateFault
plan_at line text = do
  first ← line_at line text
  if is_text (codes "none") first.0 then Ok (None, first.1) else (do
    count ← number_behind line (codes "plan ") first.0
    plan ← steps_at count (line + 1) first.1
    Ok (Some plan.0, plan.1))

-- how many lines the plan takes
abbrev pub plan_lines : Option Plan → ℕ
plan_lines None = 1
plan_lines (Some plan) = length plan.actions + 2

-- what a text says: how it is spelled, the certificate, and the number of its first row's line
pub record Text : Type 0 where
  pub spelling : Spelling
  pub certificate : Certificate
  pub first : ℕ

-- the end, with nothing after it
unfoldable pub end_at : (line : ℕ) → List ℕ → Result Bool CertificateFault
end_at line text = do
  rest ← fixed_at line (codes "end") text
  if length rest == 0 then Ok true else Err (Syntax (line + 1))

-- the rows and the end
unfoldable pub body_at : (width line : ℕ) → List ℕ → Result (List Line) CertificateFault
body_at width line text = do
  count ← number_at line (codes "rows ") text
  rows ← rows_at width count.0 (line + 1) count.1
  ended ← end_at (line + 1 + length rows.0) rows.1
  Ok rows.0

-- the line of the weight, behind those before it
abbrev pub weight_line : Spelling → ℕ
weight_line spelling = 1 + head_lines spelling

-- the line of the first row, behind those of the weight, the plan and the number of rows
abbrev pub first_line : Spelling → Option Plan → ℕ
first_line spelling plan = weight_line spelling + 2 + plan_lines plan

-- all of the bytes
unfoldable pub text_of : List ℕ → Result Text CertificateFault
text_of bytes = do
  head ← head_at bytes
  weight ← weight_at (weight_line head.0) head.1
  plan ← plan_at (weight_line head.0 + 1) weight.1
  rows ← body_at head.0.width (weight_line head.0 + 1 + plan_lines plan.0) plan.1
  Ok (record {
    spelling = head.0;
    certificate = record {
      weight = weight.0;
      plan = plan.0;
      lines = rows;
    };
    first = first_line head.0 plan.0;
  })

-- ---- what is stated, before all else is read

-- a choice of an estimate, if it suits the task, and else the plain one
abbrev pub suiting : TaskParts → Choice → Choice
suiting parts choice = if suits parts choice then choice else Plain

abbrev pub choice_in : TaskParts → Result (Spelling × List ℕ) CertificateFault → Choice
choice_in parts (Ok head) = suiting parts head.0.stated.choice
choice_in parts (Err fault) = Plain

-- The choice of an estimate that a text states, if it suits the task. It is the plain one if the
-- stated choice doesn't suit it, or if the text's head can't be read.
abbrev pub stated_choice : TaskParts → List ℕ → Choice
stated_choice parts bytes = choice_in parts (head_at bytes)
