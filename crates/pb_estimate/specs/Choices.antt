-- The choice of an estimate, as contracts see it.
use Rattle.std.specs.Prelude.{ℕ, Option, None, Some, ◌==◌, if◌then◌else◌}
use Rattle.std.specs.Arc.{arc_value}
use Rattle.pb_tables.specs.Tables.{TablesValue}
use Rattle.pb_estimate.specs.declared.choice.Kept.{Kept}
use Rattle.pb_estimate.specs.declared.choice.Kept.TheVariants as kept
use Rattle.pb_estimate.specs.declared.choice.ChoiceCase.{ChoiceCase}
use Rattle.pb_estimate.specs.declared.choice.ChoiceCase.TheVariants as cases

-- By which estimate a task is searched and judged: that of the task's kind, the greater of that one
-- and the value of the pattern with this number, or that of tables.
pub data Choice : Type 0 where
  Plain : Choice
  Pattern : (number : ℕ) → Choice
  Tables : (tables : TablesValue) → Choice

-- the number of the pattern that the estimate looks up, and 0 if it looks up none
abbrev pub pattern_of : Choice → ℕ
pattern_of Plain = 0
pattern_of (Pattern number) = number
pattern_of (Tables tables) = 0

-- the tables that the estimate looks up, if it looks up tables
abbrev pub tables_of : Choice → Option TablesValue
tables_of Plain = None
tables_of (Pattern number) = None
tables_of (Tables tables) = Some tables

-- the choice with the pattern of this number, and the plain one for 0
abbrev pub choice_with : (pattern : ℕ) → Choice
choice_with pattern = if pattern == 0 then Plain else Pattern pattern

-- ---- how a choice is kept

-- the choice that is kept so
abbrev pub choice_of : Kept → Choice
choice_of kept.Plain = Plain
choice_of (kept.Pattern number) = Pattern number
choice_of (kept.Tables tables) = Tables (arc_value tables)

-- the choice that has this case
abbrev pub case_of : ChoiceCase → Choice
case_of cases.Plain = Plain
case_of (cases.Pattern number) = Pattern number
case_of (cases.Tables tables) = Tables tables.now
