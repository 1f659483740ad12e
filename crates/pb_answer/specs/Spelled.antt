-- Texts that spell a task by the rules of their format: a map and a scenario, a board, or a domain
-- and a problem by the grammar, which are well typed and within the numbers of atoms and actions of
-- the grounding that the words ask for. Beside these, tables of a file that suit the task.
use Rattle.std.specs.Prelude.{◌≡◌, ℕ, ◌+◌, ⊤, true, Option, None, Some, List, Ok, slice_get}
use Rattle.pb_task.specs.declared.parts.GridParts.{GridParts}
use Rattle.pb_task.specs.declared.parts.TilesParts.{TilesParts}
use Rattle.pb_task.specs.declared.parts.StripsParts.{StripsParts}
use Rattle.pb_task.specs.declared.parts.TaskParts.TheVariants as parts
use Rattle.pb_task.specs.Widths.{width_of}
use Rattle.pb_tables.specs.Tables.{TablesValue, AreTables}
use Rattle.pb_tables.specs.Suits.{suit}
use Rattle.pb_table_lines.specs.Lines.{tables_text}
use Rattle.pb_grid.specs.Form.{SpellsGrid}
use Rattle.pb_tiles.specs.Spelling.{SpellsTiles}
use Rattle.pb_pddl.specs.declared.tree.Domain.{Domain}
use Rattle.pb_pddl.specs.declared.tree.Problem.{Problem}
use Rattle.pb_lifted.specs.Typing.{IsWellTyped}
use Rattle.pb_strips.specs.Refusals.{IsWithinLimitsWith}
use Rattle.pb_command.specs.declared.command.InputOptions.{InputOptions}
use Rattle.pb_command.specs.Values.{InputNames, Grid, Tiles, Strips}
use Rattle.pb_command.specs.Meaning.{Reading, Refused, Read, Solve, Falling, Check, Journal, Make, SolveMeaning}
use Rattle.pb_answer.specs.Loaded.{input_task}
use Rattle.pb_answer.specs.Named.{SpellTrees}

-- the texts of a map and a scenario spell a grid, and P holds of it
abbrev pub OfGrid : (map_text scenario_text : Option (List ℕ)) → InputOptions
    → (P : GridParts → Type 0) → Type 0
OfGrid None scenario_text options P = ⊥
OfGrid (Some map_text) None options P = ⊥
OfGrid (Some map_text) (Some scenario_text) options P =
    (grid : GridParts) × SpellsGrid map_text scenario_text options.row options.swamp grid × P grid

-- the text spells a board, and P holds of it
abbrev pub OfTiles : (text : Option (List ℕ)) → (P : TilesParts → Type 0) → Type 0
OfTiles None P = ⊥
OfTiles (Some text) P = (tiles : TilesParts) × SpellsTiles text tiles × P tiles

-- the texts from this place on spell a task of the kind of the input
abbrev pub SpellInput : InputNames → InputOptions → (first : ℕ)
    → (texts : List (List ℕ)) → Type 0
SpellInput (Grid names) options first texts =
    OfGrid (slice_get texts first) (slice_get texts (first + 1)) options (λ grid. Unit {0})
SpellInput (Tiles board) options first texts =
    OfTiles (slice_get texts first) (λ tiles. Unit {0})
SpellInput (Strips names) options first texts =
    (domain : Domain) × (problem : Problem) × SpellTrees (slice_get texts first)
    (slice_get texts (first + 1)) domain problem
    × IsWellTyped domain problem × IsWithinLimitsWith options.grounding domain problem

-- If the words name a file of tables for a STRIPS task, the text after those of the task is the
-- lines of lawful tables that suit the task. Their images have as many digits as its states.
abbrev pub SpellTables : SolveMeaning → (texts : List (List ℕ)) → InputNames
    → (file : Option (List ℕ)) → Type 0
SpellTables solve texts (Grid names) file = ⊤
SpellTables solve texts (Tiles board) file = ⊤
SpellTables solve texts (Strips names) None = ⊤
SpellTables solve texts (Strips names) (Some file) =
    (tables : TablesValue) × (text : List ℕ) × (slice_get texts 2 ≡ Some text)
    × AreTables tables
    × ((strips : StripsParts)
    → input_task solve.input solve.options 0 texts ≡ Ok (parts.Strips strips)
    → (suit strips tables ≡ true)
    × (text ≡ tables_text (width_of (parts.Strips strips)) tables))

-- the texts spell a task of the kind of the input, and tables that suit it if the words name a file
-- of them for a STRIPS task
abbrev pub SpellSolve : SolveMeaning → (texts : List (List ℕ)) → Type 0
SpellSolve solve texts =
    SpellInput solve.input solve.options 0 texts
    × SpellTables solve texts solve.input solve.tables

-- the text that is judged is there, and those after it spell such a task
abbrev pub SpellBehind : InputNames → InputOptions → (texts : List (List ℕ)) → Type 0
SpellBehind input options texts =
    (text : List ℕ) × (slice_get texts 0 ≡ Some text) × SpellInput input options 1 texts

-- the words are those of a command whose texts spell such a task
abbrev pub SpellTask : Reading → (texts : List (List ℕ)) → Type 0
SpellTask (Refused fault) texts = ⊥
SpellTask (Read (Solve solve)) texts = SpellSolve solve texts
SpellTask (Read (Falling falling)) texts = SpellSolve falling.solve texts
SpellTask (Read (Check check)) texts = SpellBehind check.input check.options texts
SpellTask (Read (Journal journal)) texts = SpellBehind journal.input journal.options texts
SpellTask (Read (Make make)) texts = ⊥
