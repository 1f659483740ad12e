-- What the words ask a search to be run with. What it means that a search came to an end is in
-- `Searches` of `pb_search`; what it found is in `Found` of `pb_cert`.
use Rattle.std.specs.Prelude.{◌≡◌, ◌⊎◌, ℕ, Option, None, Some, true}
use Rattle.pb_model.specs.Weight.{Weight}
use Rattle.pb_machine.specs.declared.settings.Settings.{Settings}
use Rattle.pb_machine.specs.Settings.{weight_of}
use Rattle.pb_task.specs.declared.parts.TaskParts.{TaskParts}
use Rattle.pb_task.specs.declared.parts.TaskParts.TheVariants as parts
use Rattle.pb_task.specs.declared.parts.StripsParts.{StripsParts}
use Rattle.pb_tables.specs.Tables.{TablesValue, AreTables}
use Rattle.pb_tables.specs.Suits.{suit}
use Rattle.pb_finder.specs.Sizes.{ListFewImages}
use Rattle.pb_estimate.specs.Choices.{Choice, Plain, Tables, choice_with}
use Rattle.pb_command.specs.Meaning.{SolveMeaning}

-- Each setting is as the words give it, or its default.
abbrev pub settings_of : SolveMeaning → Settings
settings_of solve = solve.settings

-- the weight at which the words ask to search
abbrev pub weight_asked : SolveMeaning → Weight
weight_asked solve = weight_of (settings_of solve)

-- ---- the choice of an estimate

-- Tables were looked for: the choice is the plain one, or that of lawful tables that suit the task,
-- of which none lists too many images.
abbrev pub IsFoundFor : StripsParts → Choice → Type 0
IsFoundFor strips choice =
    (choice ≡ Plain)
    ⊎ ((tables : TablesValue) × (choice ≡ Tables tables) × AreTables tables
    × (suit strips tables ≡ true) × ListFewImages tables)

-- This is the choice if no file of tables was read. With an effort, tables are looked for of a
-- STRIPS task. Else the choice is the plain one, or that of the pattern database with this number.
abbrev pub IsChoiceFor : (effort : Option ℕ) → (pattern : ℕ) → TaskParts → Choice → Type 0
IsChoiceFor None pattern task choice = choice ≡ choice_with pattern
IsChoiceFor (Some effort) pattern (parts.Grid grid) choice = choice ≡ choice_with pattern
IsChoiceFor (Some effort) pattern (parts.Tiles tiles) choice = choice ≡ choice_with pattern
IsChoiceFor (Some effort) pattern (parts.Strips strips) choice = IsFoundFor strips choice

-- This is a choice of an estimate by which the words ask to search the task. With tables that
-- `solve_task` read from a file it is theirs. Without any it is the one above.
abbrev pub IsChoiceAsked : SolveMeaning → (given : Option TablesValue) → TaskParts → Choice → Type 0
IsChoiceAsked solve None task choice =
    IsChoiceFor solve.effort (settings_of solve).pattern task choice
IsChoiceAsked solve (Some tables) task choice = choice ≡ Tables tables

-- P holds of a task that was read, and of a choice of an estimate by which the words ask to search
-- it. It was read with these tables of a file, or with none.
abbrev pub ByAskedChoice : SolveMeaning → (read : TaskParts × Option TablesValue)
    → (P : Choice → TaskParts → Type 0) → Type 0
ByAskedChoice solve read P =
    (choice : Choice) × IsChoiceAsked solve read.1 read.0 choice × P choice read.0
