-- When grounding is stopped. Then neither a task nor a refusal is known of the texts, and nothing is
-- claimed.
use Rattle.std.specs.Prelude.{◌≡◌, ◌⊎◌, ℕ, ◌+◌, ⊤, Option, None, Some, List, [], Ok, slice_get}
use Rattle.pb_task.specs.declared.grounding.Grounding.{Grounding}
use Rattle.pb_pddl.specs.declared.tree.Domain.{Domain}
use Rattle.pb_pddl.specs.declared.tree.Problem.{Problem}
use Rattle.pb_pddl.specs.Readings.{domain_reading, problem_reading}
use Rattle.pb_strips.specs.Looks.{most_looks}
use Rattle.pb_strips.specs.Refusals.{HasNoFaultBefore}
use Rattle.pb_report.specs.Texts.{stopped_grounding_report}
use Rattle.pb_command.specs.declared.command.InputOptions.{InputOptions}
use Rattle.pb_command.specs.Values.{InputNames, Grid, Tiles, Strips}
use Rattle.pb_command.specs.Meaning.{Reading, Refused, Read, Solve, Falling, Check, Journal, Make, SolveMeaning}
use Rattle.pb_answer.specs.Answer.{Said, Says, Saves}

-- the text of a problem can be read, and no fault of both comes before a stop of this grounding
abbrev pub ProblemMayStop : Grounding → Domain → (problem_text : List ℕ) → Type 0
ProblemMayStop grounding domain problem_text =
    (problem : Problem) × (problem_reading problem_text ≡ Ok problem)
    × HasNoFaultBefore grounding domain problem

-- the texts of a domain and a problem can be read, and no fault of both comes before a stop of this
-- grounding
abbrev pub StripsMayStop : Grounding → (domain_text problem_text : Option (List ℕ)) → Type 0
StripsMayStop grounding None problem_text = ⊥
StripsMayStop grounding (Some domain_text) None = ⊥
StripsMayStop grounding (Some domain_text) (Some problem_text) =
    (domain : Domain) × (domain_reading domain_text ≡ Ok domain)
    × ProblemMayStop grounding domain problem_text

-- the same of the texts from this place on; a map and a board aren't grounded
abbrev pub InputMayStop : InputNames → InputOptions → (first : ℕ) → (texts : List (List ℕ)) → Type 0
InputMayStop (Grid names) options first texts = ⊥
InputMayStop (Tiles board) options first texts = ⊥
InputMayStop (Strips names) options first texts =
    StripsMayStop options.grounding (slice_get texts first) (slice_get texts (first + 1))

-- Grounding was stopped: nothing of the texts from this place on is refused that comes before, and
-- as many looks were taken as there may be. The report says so, and nothing is saved.
pub record StopsGrounding (input : InputNames) (options : InputOptions) (first : ℕ)
    (texts : List (List ℕ)) (said : Said) : Type 0 where
  pub due : InputMayStop input options first texts
  pub looks : said.looks ≡ most_looks
  pub status : said.status ≡ 2
  pub report : Says said stopped_grounding_report
  pub outputs : Saves said []

-- the text of a file of tables is there, if the words name one for a STRIPS task
abbrev pub HasTablesText : InputNames → (tables : Option (List ℕ)) → (texts : List (List ℕ))
    → Type 0
HasTablesText (Grid names) tables texts = ⊤
HasTablesText (Tiles board) tables texts = ⊤
HasTablesText (Strips names) None texts = ⊤
HasTablesText (Strips names) (Some file) texts = (text : List ℕ) × (slice_get texts 2 ≡ Some text)

-- Grounding of a task that is to be solved was stopped. The text of a file of tables is there if one
-- is asked for, and wasn't read.
abbrev pub StopsSolve : SolveMeaning → (texts : List (List ℕ)) → Said → Type 0
StopsSolve solve texts said =
    HasTablesText solve.input solve.tables texts
    × StopsGrounding solve.input solve.options 0 texts said

-- the same of the texts after the one that is judged, which is there
abbrev pub StopsBehind : InputNames → InputOptions → (texts : List (List ℕ)) → Said → Type 0
StopsBehind input options texts said =
    (text : List ℕ) × (slice_get texts 0 ≡ Some text) × StopsGrounding input options 1 texts said

-- the words are those of a command whose texts are to be grounded, and grounding was stopped
abbrev pub StopsTexts : Reading → (texts : List (List ℕ)) → Said → Type 0
StopsTexts (Refused fault) texts said = ⊥
StopsTexts (Read (Solve solve)) texts said = StopsSolve solve texts said
StopsTexts (Read (Falling falling)) texts said = StopsSolve falling.solve texts said
StopsTexts (Read (Check check)) texts said = StopsBehind check.input check.options texts said
StopsTexts (Read (Journal journal)) texts said = StopsBehind journal.input journal.options texts said
StopsTexts (Read (Make make)) texts said = ⊥

-- what P says, or grounding was stopped
abbrev pub OrStopped : Reading → (texts : List (List ℕ)) → (P : Said → Type 0) → Said → Type 0
OrStopped reading texts P said = P said ⊎ StopsTexts reading texts said
