-- Reading a grid from the lines of a map and of a scenario. Of several refusals the first in the
-- order of these definitions is reported.
use Rattle.std.specs.Prelude.{◌≡◌, ◌≢◌, ℕ, zero, suc, ◌+◌, Bool, true, false, List, [], ◌∷◌, ◌++◌, length, take, drop, map, filter, reverse, codes, Option, None, Some, Result, Ok, Err, slice_get, if◌then◌else◌, nat_lt, nat_le, nat_eq, not, ◌==◌, ◌&&◌}
use Rattle.std.specs.List.{concat, enumerate_from, starts_with}
use Rattle.std.specs.Str.{bytes_eq}
use Rattle.pb_task.specs.declared.parts.Class.{Class}
use Rattle.pb_task.specs.declared.parts.Class.TheVariants.{Land, Water, Blocked}
use Rattle.pb_task.specs.declared.parts.GridParts.{GridParts}
use Rattle.pb_task.specs.declared.parts.TaskParts.{TaskParts}
use Rattle.pb_task.specs.declared.parts.TaskParts.TheVariants.{Grid}
use Rattle.pb_task.specs.Grid.{class_at, is_passable}
use Rattle.pb_grid.specs.declared.error.GridError.{GridError}
use Rattle.pb_grid.specs.declared.error.GridError.TheVariants as errors
use Rattle.pb_grid.specs.declared.map.MapParts.{MapParts}
use Rattle.pb_grid.specs.declared.scenario.ScenarioParts.{ScenarioParts}
use Rattle.pb_lines.specs.ShortNumbers.{short_number_of}
use Rattle.pb_grid.specs.Lines.{lines_of, line_at, words_of, is_blank_line}

-- ---- one refusal after another

-- goes on with what the first gave, or ends with its error
infixl 10 ◌>>=◌
abbrev pub ◌>>=◌ : {A B : Type 0} → Result A GridError → (A → Result B GridError)
    → Result B GridError
(Ok x) >>= f = f x
(Err e) >>= f = Err e

-- what is there, or else this error
abbrev pub wanted : {A : Type 0} → GridError → Option A → Result A GridError
wanted error None = Err error
wanted error (Some x) = Ok x

-- it holds, or else this error
abbrev pub must : GridError → (holds : Bool) → Result Bool GridError
must error true = Ok true
must error false = Err error

-- what a function returned, seen by `view`, is what is given, unless memory ran out
abbrev pub Gives : {X Y : Type 0} → (view : X → Y) → Result X GridError
    → (given : Result Y GridError) → Type 0
Gives view (Ok x) given = given ≡ Ok (view x)
Gives view (Err e) given = e ≢ errors.Memory → given ≡ Err e

-- ---- the first four lines of a map

abbrev pub are_words : (words wanted : List (List ℕ)) → Bool
are_words [] [] = true
are_words [] (want ∷ wanted) = false
are_words (word ∷ words) [] = false
are_words (word ∷ words) (want ∷ wanted) = bytes_eq word want && are_words words wanted

-- the number after this name, if the two are all words
abbrev pub number_named : (name : List ℕ) → (words : List (List ℕ)) → Option ℕ
number_named name [] = None
number_named name (word ∷ []) = None
number_named name (word ∷ number ∷ []) = if bytes_eq word name then short_number_of number else None
number_named name (word ∷ number ∷ more ∷ words) = None

-- the height and the width
unfoldable pub size_of_map : (lines : List (List ℕ)) → Result (ℕ × ℕ) GridError
size_of_map lines = do
  first ← must (errors.Header 1) (are_words (words_of (line_at lines 1))
      (codes "type" ∷ codes "octile" ∷ []))
  height ← wanted (errors.Header 2) (number_named (codes "height") (words_of (line_at lines 2)))
  width ← wanted (errors.Header 3) (number_named (codes "width") (words_of (line_at lines 3)))
  fourth ← must (errors.Header 4) (are_words (words_of (line_at lines 4)) (codes "map" ∷ []))
  Ok (height, width)

abbrev pub is_side : (cells : ℕ) → Bool
is_side cells = nat_le 1 cells && nat_le cells 2048

-- ---- the rows of a map

-- the class of the cell that a byte represents: `.`, `G` and `S` are land, `W` is water, and `@`,
-- `O` and `T` are blocked
unfoldable pub class_of_byte : (byte : ℕ) → Option Class
class_of_byte byte =
    if byte == 46 then Some Land
    else (if byte == 71 then Some Land
    else (if byte == 83 then Some Land
    else (if byte == 87 then Some Water
    else (if byte == 64 then Some Blocked
    else (if byte == 79 then Some Blocked
    else (if byte == 84 then Some Blocked else None))))))

-- the cells that the bytes from this column on represent
unfoldable pub cells_of : (line column : ℕ) → (bytes : List ℕ) → Result (List Class) GridError
cells_of line column [] = Ok []
cells_of line column (byte ∷ bytes) = do
  cell ← wanted (errors.Cell line column) (class_of_byte byte)
  cells ← cells_of line (column + 1) bytes
  Ok (cell ∷ cells)

-- the cells that were read, after these
abbrev pub added_to : (before : List Class) → Result (List Class) GridError
    → Result (List Class) GridError
added_to before read = read >>= λ cells. Ok (before ++ cells)

-- the cells of a row, which has as many bytes as the map is wide
unfoldable pub row_of_map : (width line : ℕ) → (row : List ℕ) → Result (List Class) GridError
row_of_map width line row = do
  whole ← must (errors.Rows line) (length row == width)
  cells_of line 1 row

-- the cells of that many rows
unfoldable pub rows_of_map : (width count line : ℕ) → (lines : List (List ℕ))
    → Result (List Class) GridError
rows_of_map width zero line lines = Ok []
rows_of_map width (suc count) line [] = Err (errors.Rows line)
rows_of_map width (suc count) line (row ∷ lines) = do
  cells ← row_of_map width line row
  others ← rows_of_map width count (line + 1) lines
  Ok (cells ++ others)

-- below the rows each line is blank
unfoldable pub below_map : (line : ℕ) → (lines : List (List ℕ)) → Result Bool GridError
below_map line [] = Ok true
below_map line (below ∷ lines) = do
  blank ← must (errors.Rows line) (is_blank_line below)
  below_map (line + 1) lines

unfoldable pub map_reading : (lines : List (List ℕ)) → Result MapParts GridError
map_reading lines = do
  size ← size_of_map lines
  sides ← must errors.Size (is_side size.0 && is_side size.1)
  cells ← rows_of_map size.1 size.0 5 (drop 4 lines)
  below ← below_map (5 + size.0) (drop (4 + size.0) lines)
  Ok (record { width = size.1; height = size.0; cells = cells })

-- ---- the swamp of a map

-- the cell that a byte represents is swamp: swamp is asked for, and the byte is `S`
abbrev pub is_swamp_byte : (swamp : Bool) → (byte : ℕ) → Bool
is_swamp_byte swamp byte = swamp && byte == 83

-- which cells of a map of this height are swamp, row by row; the rows are the lines after the first
-- four
abbrev pub swamp_of : (swamp : Bool) → (height : ℕ) → (lines : List (List ℕ)) → List Bool
swamp_of swamp height lines = map (is_swamp_byte swamp) (concat (take height (drop 4 lines)))

-- ---- a scenario

-- the rows of a scenario, each with its line's number: the lines after the first that are not blank
abbrev pub rows_of_scenario : (lines : List (List ℕ)) → List (ℕ × List ℕ)
rows_of_scenario lines = filter (λ row. not (is_blank_line row.1)) (enumerate_from 2 (drop 1 lines))

-- the numbers that two words spell
abbrev pub pair_of : (x y : List ℕ) → Option (ℕ × ℕ)
pair_of x y = both (short_number_of x) (short_number_of y)
  where
    both : Option ℕ → Option ℕ → Option (ℕ × ℕ)
    both None y = None
    both (Some x) None = None
    both (Some x) (Some y) = Some (x, y)

abbrev pub scenario_of : (size start goal : Option (ℕ × ℕ)) → Option ScenarioParts
scenario_of None start goal = None
scenario_of (Some size) None goal = None
scenario_of (Some size) (Some start) None = None
scenario_of (Some size) (Some start) (Some goal) =
    Some (record { width = size.0; height = size.1; start = start; goal = goal })

-- What the words of a row say, the last word first: the length of a shortest way, the goal's row
-- and column, the start's row and column, and the map's height and width. Before these come at
-- least two words more: a bucket and the map's name.
unfoldable pub scenario_of_words : (words : List (List ℕ)) → Option ScenarioParts
scenario_of_words (way ∷ goal_y ∷ goal_x ∷ start_y ∷ start_x ∷ height ∷ width ∷ name ∷ bucket
    ∷ more) =
    scenario_of (pair_of width height) (pair_of start_x start_y) (pair_of goal_x goal_y)
scenario_of_words fewer = None

unfoldable pub scenario_reading : (lines : List (List ℕ)) → (row : ℕ)
    → Result ScenarioParts GridError
scenario_reading lines row = do
  version ← must (errors.Scenario 1) (starts_with nat_eq (line_at lines 1) (codes "version"))
  chosen ← wanted (errors.NoRow row (length (rows_of_scenario lines)))
      (slice_get (rows_of_scenario lines) row)
  wanted (errors.Scenario chosen.0) (scenario_of_words (reverse (words_of chosen.1)))

-- ---- both

-- a cell, named by its column and row, lies on the map
abbrev pub is_on_map : (width height : ℕ) → (cell : ℕ × ℕ) → Bool
is_on_map width height cell = nat_lt cell.0 width && nat_lt cell.1 height

-- a cell is land or water
abbrev pub is_free : GridParts → (cell : ℕ × ℕ) → Bool
is_free grid cell = is_passable (class_at grid cell.0 cell.1)

unfoldable pub grid_of_parts : MapParts → (swamp : List Bool) → ScenarioParts
    → Result GridParts GridError
grid_of_parts map swamp scenario = do
  sizes ← must errors.ScenarioSize (scenario.width == map.width && scenario.height == map.height)
  inside ← must errors.Outside (is_on_map map.width map.height scenario.start
      && is_on_map map.width map.height scenario.goal)
  start ← must errors.StartBlocked (is_free (grid_of map swamp scenario) scenario.start)
  goal ← must errors.GoalBlocked (is_free (grid_of map swamp scenario) scenario.goal)
  Ok (grid_of map swamp scenario)
  where
    grid_of : MapParts → (swamp : List Bool) → ScenarioParts → GridParts
    grid_of map swamp scenario = record {
      width = map.width;
      height = map.height;
      cells = map.cells;
      swamp = swamp;
      start = scenario.start;
      goal = scenario.goal;
    }

-- the grid that the texts of a map and of a scenario spell, with swamp or without, or why they
-- spell none
unfoldable pub grid_reading : (map_text scenario_text : List ℕ) → (row : ℕ) → (swamp : Bool)
    → Result GridParts GridError
grid_reading map_text scenario_text row swamp = do
  map ← map_reading (lines_of map_text)
  scenario ← scenario_reading (lines_of scenario_text) row
  grid_of_parts map (swamp_of swamp map.height (lines_of map_text)) scenario

-- the task of a grid that was read
abbrev pub task_of : Result GridParts GridError → Result TaskParts GridError
task_of (Ok grid) = Ok (Grid grid)
task_of (Err error) = Err error
