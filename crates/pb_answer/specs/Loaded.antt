-- Which task is spelled by the texts that were loaded of the files of a command line, or the report
-- that refuses them. The task of each kind is in `input_task`. The words for the row and for swamp
-- are part of what spells a grid, and the word for the grounding is part of what spells a STRIPS
-- task.
use Rattle.std.specs.Prelude.{◌≡◌, ℕ, ◌+◌, Bool, true, false, Option, None, Some, List, [], Result, Ok, Err, slice_get}
use Rattle.pb_model.specs.Texts.{line}
use Rattle.pb_task.specs.declared.parts.TaskParts.{TaskParts}
use Rattle.pb_task.specs.declared.parts.TaskParts.TheVariants as parts
use Rattle.pb_task.specs.declared.parts.TilesParts.{TilesParts}
use Rattle.pb_task.specs.declared.parts.StripsParts.{StripsParts}
use Rattle.pb_task.specs.declared.grounding.Grounding.{Grounding}
use Rattle.pb_task.specs.declared.grounding.Grounding.TheVariants.{All}
use Rattle.pb_task.specs.Groundings.{grounding_of}
use Rattle.pb_task.specs.Widths.{width_of}
use Rattle.pb_tables.specs.declared.fault.TablesFault.{TablesFault}
use Rattle.pb_tables.specs.Tables.{TablesValue}
use Rattle.pb_tables.specs.Suits.{tables_fault}
use Rattle.pb_table_lines.specs.Reading.{tables_reading}
use Rattle.pb_estimate.specs.Choices.{Choice}
use Rattle.pb_grid.specs.declared.error.GridError.{GridError}
use Rattle.pb_grid.specs.Reading.{grid_reading, task_of}
use Rattle.pb_tiles.specs.declared.error.TilesError.{TilesError}
use Rattle.pb_tiles.specs.Reading.{tiles_reading}
use Rattle.pb_pddl.specs.declared.error.SyntaxError.{SyntaxError}
use Rattle.pb_pddl.specs.declared.tree.Domain.{Domain}
use Rattle.pb_pddl.specs.declared.tree.Problem.{Problem}
use Rattle.pb_pddl.specs.Readings.{domain_reading, problem_reading}
use Rattle.pb_strips.specs.declared.error.StripsError.{StripsError}
use Rattle.pb_strips.specs.Grounding.{strips_with}
use Rattle.pb_strips.specs.Refusals.{fault_with}
use Rattle.pb_report.specs.Texts.{input_text, tiles_text, syntax_text, strips_text, tables_syntax_text, tables_fault_text}
use Rattle.pb_command.specs.Files.{too_long as fault_line}
use Rattle.pb_command.specs.declared.command.InputOptions.{InputOptions}
use Rattle.pb_command.specs.Values.{InputNames, Grid, Tiles, Strips}
use Rattle.pb_command.specs.Meaning.{Reading, Refused, Read, Solve, Falling, Check, Journal, Make, SolveMeaning, CheckMeaning, JournalMeaning}
use Rattle.pb_answer.specs.Searches.{ByAskedChoice}

-- ---- what the texts spell: a task, or the report with which they are refused

-- a file was too long, so that its text and the later ones were not loaded
abbrev pub too_long : List ℕ
too_long = line fault_line

-- out of memory has no text, and no reading of texts gives it
abbrev pub refused_with : Option (List ℕ) → Result TaskParts (List ℕ)
refused_with None = Err []
refused_with (Some report) = Err report

abbrev pub grid_told : Result TaskParts GridError → Result TaskParts (List ℕ)
grid_told (Ok task) = Ok task
grid_told (Err error) = refused_with (input_text error)

abbrev pub grid_task : (map_text scenario_text : Option (List ℕ)) → InputOptions
    → Result TaskParts (List ℕ)
grid_task None scenario_text options = Err too_long
grid_task (Some map_text) None options = Err too_long
grid_task (Some map_text) (Some scenario_text) options =
    grid_told (task_of (grid_reading map_text scenario_text options.row options.swamp))

abbrev pub tiles_told : Result TilesParts TilesError → Result TaskParts (List ℕ)
tiles_told (Ok tiles) = Ok (parts.Tiles tiles)
tiles_told (Err error) = refused_with (tiles_text error)

abbrev pub tiles_task : (text : Option (List ℕ)) → Result TaskParts (List ℕ)
tiles_task None = Err too_long
tiles_task (Some text) = tiles_told (tiles_reading text)

abbrev pub strips_told : Grounding → Domain → Problem → Option StripsError
    → Result TaskParts (List ℕ)
strips_told grounding domain problem None = Ok (parts.Strips (strips_with grounding domain problem))
strips_told grounding domain problem (Some error) = refused_with (strips_text error)

abbrev pub problem_told : Grounding → Domain → Result Problem SyntaxError
    → Result TaskParts (List ℕ)
problem_told grounding domain (Ok problem) =
    strips_told grounding domain problem (fault_with grounding domain problem)
problem_told grounding domain (Err error) = refused_with (syntax_text 2 error)

-- the domain is read first, then the problem, and then both are grounded
abbrev pub domain_told : Grounding → Result Domain SyntaxError
    → (problem : Result Problem SyntaxError) → Result TaskParts (List ℕ)
domain_told grounding (Ok domain) problem = problem_told grounding domain problem
domain_told grounding (Err error) problem = refused_with (syntax_text 1 error)

abbrev pub strips_task : Grounding → (domain_text problem_text : Option (List ℕ))
    → Result TaskParts (List ℕ)
strips_task grounding None problem_text = Err too_long
strips_task grounding (Some domain_text) None = Err too_long
strips_task grounding (Some domain_text) (Some problem_text) =
    domain_told grounding (domain_reading domain_text) (problem_reading problem_text)

-- the task of the texts from this place on, read as the words ask; what they say of the row and of
-- swamp doesn't matter for tiles and strips, and what they say of the grounding matters for strips
-- alone
abbrev pub input_task : InputNames → InputOptions → (first : ℕ) → (texts : List (List ℕ))
    → Result TaskParts (List ℕ)
input_task (Grid names) options first texts =
    grid_task (slice_get texts first) (slice_get texts (first + 1)) options
input_task (Tiles board) options first texts = tiles_task (slice_get texts first)
input_task (Strips names) options first texts =
    strips_task options.grounding (slice_get texts first) (slice_get texts (first + 1))

-- The grounding of a task that the words ask for. The flag is looked at for STRIPS alone: of a map
-- and of a board nothing is left out.
abbrev pub grounding_asked : InputNames → InputOptions → Grounding
grounding_asked (Grid names) options = All
grounding_asked (Tiles board) options = All
grounding_asked (Strips names) options = options.grounding

-- The grounding of the task that the texts spell is the one that the words ask for.
abbrev pub GroundingsAreAsAsked : Type 0
GroundingsAreAsAsked =
    (task : TaskParts) (input : InputNames) (options : InputOptions) (first : ℕ)
    (texts : List (List ℕ)) → input_task input options first texts ≡ Ok task
    → grounding_of task ≡ grounding_asked input options

-- ---- the tables of a file

-- tables that have no fault for the task, or the report of the first one
abbrev pub suiting_told : TablesValue → Option TablesFault → Result TablesValue (List ℕ)
suiting_told tables None = Ok tables
suiting_told tables (Some fault) = Err (tables_fault_text tables fault)

-- the tables that a text states for a STRIPS task, or the report with which they are refused
abbrev pub tables_told : StripsParts → Result TablesValue ℕ → Result TablesValue (List ℕ)
tables_told strips (Ok tables) = suiting_told tables (tables_fault strips tables)
tables_told strips (Err at) = Err (tables_syntax_text at)

-- a task that was read, and the tables of a file by which it is to be searched
abbrev pub with_its_tables : TaskParts → Result TablesValue (List ℕ)
    → Result (TaskParts × Option TablesValue) (List ℕ)
with_its_tables task (Ok tables) = Ok (task, Some tables)
with_its_tables task (Err report) = Err report

-- the task, without tables of a file
abbrev pub without_tables : Result TaskParts (List ℕ)
    → Result (TaskParts × Option TablesValue) (List ℕ)
without_tables (Ok task) = Ok (task, None)
without_tables (Err report) = Err report

-- The task with the tables of this text. What refuses the task comes first. Tables are of a STRIPS
-- task alone, whose states have as many digits as the images.
abbrev pub with_tables_of : (text : List ℕ) → Result TaskParts (List ℕ)
    → Result (TaskParts × Option TablesValue) (List ℕ)
with_tables_of text (Ok (parts.Grid grid)) = Ok (parts.Grid grid, None)
with_tables_of text (Ok (parts.Tiles tiles)) = Ok (parts.Tiles tiles, None)
with_tables_of text (Ok (parts.Strips strips)) =
    with_its_tables (parts.Strips strips)
    (tables_told strips (tables_reading (width_of (parts.Strips strips)) text))
with_tables_of text (Err report) = Err report

-- the same, if the file wasn't too long; else nothing is read
abbrev pub with_tables_if_loaded : (text : Option (List ℕ)) → Result TaskParts (List ℕ)
    → Result (TaskParts × Option TablesValue) (List ℕ)
with_tables_if_loaded None task = Err too_long
with_tables_if_loaded (Some text) task = with_tables_of text task

-- whether the words name a file of tables that is looked at: for a STRIPS task
abbrev pub has_tables_file : InputNames → (tables : Option (List ℕ)) → Bool
has_tables_file (Grid names) tables = false
has_tables_file (Tiles board) tables = false
has_tables_file (Strips names) None = false
has_tables_file (Strips names) (Some file) = true

-- The text of the file of tables, if the words name one for a STRIPS task, with the task: it is
-- loaded after the texts of the domain and the problem. For maps and boards it isn't looked at.
abbrev pub with_tables_file : InputNames → (tables : Option (List ℕ)) → (texts : List (List ℕ))
    → Result TaskParts (List ℕ) → Result (TaskParts × Option TablesValue) (List ℕ)
with_tables_file (Grid names) tables texts task = without_tables task
with_tables_file (Tiles board) tables texts task = without_tables task
with_tables_file (Strips names) None texts task = without_tables task
with_tables_file (Strips names) (Some file) texts task =
    with_tables_if_loaded (slice_get texts 2) task

-- the task that is to be solved, with the tables of a file if the words name one for a STRIPS task
abbrev pub solve_task : SolveMeaning → (texts : List (List ℕ))
    → Result (TaskParts × Option TablesValue) (List ℕ)
solve_task solve texts =
    with_tables_file solve.input solve.tables texts (input_task solve.input solve.options 0 texts)

-- the text that is loaded first, beside the task of the texts after it
abbrev pub with_text : Option (List ℕ) → Result TaskParts (List ℕ)
    → Result (TaskParts × List ℕ) (List ℕ)
with_text None task = Err too_long
with_text (Some text) (Ok parts) = Ok (parts, text)
with_text (Some text) (Err report) = Err report

-- the task that a certificate is to be checked for, and the certificate's text
abbrev pub check_task : CheckMeaning → (texts : List (List ℕ))
    → Result (TaskParts × List ℕ) (List ℕ)
check_task check texts =
    with_text (slice_get texts 0) (input_task check.input check.options 1 texts)

-- the task that a journal is to be judged for, and the journal's text; `journal` reads a map without
-- swamp, and the blocks are the same with it
abbrev pub journal_task : JournalMeaning → (texts : List (List ℕ))
    → Result (TaskParts × List ℕ) (List ℕ)
journal_task journal texts =
    with_text (slice_get texts 0) (input_task journal.input journal.options 1 texts)

-- The texts spell a task to solve, with tables of a file that suit it if the words name one for a
-- STRIPS task. P holds of the task and of a choice of an estimate that the words ask for: with such
-- a file it is that of its tables.
abbrev pub OfTexts : SolveMeaning → (texts : List (List ℕ)) → (P : Choice → TaskParts → Type 0)
    → Type 0
OfTexts solve texts P =
    (read : TaskParts × Option TablesValue) × (solve_task solve texts ≡ Ok read)
    × ByAskedChoice solve read P

-- the texts spell a task with a certificate to check, and P holds of both
abbrev pub OfCheckedTexts : CheckMeaning → (texts : List (List ℕ))
    → (P : TaskParts → List ℕ → Type 0) → Type 0
OfCheckedTexts check texts P =
    (parts : TaskParts) × (certificate : List ℕ)
    × (check_task check texts ≡ Ok (parts, certificate)) × P parts certificate

-- the texts spell a task with a journal to judge, and P holds of both
abbrev pub OfJournalTexts : JournalMeaning → (texts : List (List ℕ))
    → (P : TaskParts → List ℕ → Type 0) → Type 0
OfJournalTexts journal texts P =
    (parts : TaskParts) × (text : List ℕ) × (journal_task journal texts ≡ Ok (parts, text))
    × P parts text

abbrev pub IsErr : {A : Type 0} → Result A (List ℕ) → (report : List ℕ) → Type 0
IsErr result report = result ≡ Err report

-- texts are refused with this report: one is too long, or they spell no task, or no tables that suit
-- it where the words name a file of them
abbrev pub RefusesTexts : Reading → (texts : List (List ℕ)) → (report : List ℕ) → Type 0
RefusesTexts (Refused fault) texts report = ⊥
RefusesTexts (Read (Solve solve)) texts report = IsErr (solve_task solve texts) report
RefusesTexts (Read (Falling falling)) texts report = IsErr (solve_task falling.solve texts) report
RefusesTexts (Read (Check check)) texts report = IsErr (check_task check texts) report
RefusesTexts (Read (Journal journal)) texts report = IsErr (journal_task journal texts) report
RefusesTexts (Read (Make make)) texts report = ⊥
