-- Estimates of the cost of a way to a goal. A further kind of task is one case more of
-- `estimate_of`, and a further choice of an estimate one case of `estimate_by` and `suits`.
use Rattle.std.specs.Prelude.{ℕ, Bool, true, false, zero, suc, ◌+◌, ◌-◌, ◌/◌, ◌%◌, ◌==◌, ◌&&◌, nat_le, max, List, if◌then◌else◌, position, unwrap_or, slice_index}
use Rattle.pb_packed.specs.Bits.{bits_of}
use Rattle.pb_model.specs.declared.row.Estimate.{Estimate}
use Rattle.pb_model.specs.declared.row.Estimate.TheVariants.{Cost, Dead}
use Rattle.pb_task.specs.Tiles.{cell_count, board_of}
use Rattle.pb_task.specs.declared.parts.TaskParts.{TaskParts}
use Rattle.pb_task.specs.declared.parts.TaskParts.TheVariants.{Grid, Tiles, Strips}
use Rattle.pb_pattern.specs.Patterns.{pattern_value}
use Rattle.pb_tables.specs.Tables.{TablesValue}
use Rattle.pb_tables.specs.Suits.{suit}
use Rattle.pb_tables.specs.Estimate.{tables_estimate}
use Rattle.pb_estimate.specs.Choices.{Choice, Plain, Pattern, Tables}
use Rattle.pb_estimate.specs.Hmax.{hmax}

-- how far two numbers are apart
abbrev pub apart : (n m : ℕ) → ℕ
apart n m = (n - m) + (m - n)

-- the Manhattan distance of two cells: that in x plus that in y
abbrev pub manhattan : (from to : ℕ × ℕ) → ℕ
manhattan from to = apart from.0 to.0 + apart from.1 to.1

-- the cell of a grid that a state represents
abbrev pub cell_of : (state : ℕ) → ℕ × ℕ
cell_of state = (bits_of state 0 11, bits_of state 11 11)

-- ---- tiles

-- the column and the row of a board's cell
abbrev pub place_of : (cols cell : ℕ) → ℕ × ℕ
place_of cols cell = (cell % cols, cell / cols)

-- the cell of a board that a number is in
abbrev pub cell_with : (board : List ℕ) → (number : ℕ) → ℕ
cell_with board number = unwrap_or (position (λ other. other == number) board) 0

-- the distance of the tile in a cell from its cell on the goal board; the blank is no tile
abbrev pub way_home : (cols : ℕ) → (goal : List ℕ) → (cell number : ℕ) → ℕ
way_home cols goal cell number =
    if number == 0 then 0 else manhattan (place_of cols cell)
    (place_of cols (cell_with goal number))

-- the distances of the tiles in the first `count` cells of a board from their cells on the goal
-- board, summed
abbrev pub ways_home : (cols : ℕ) → (goal board : List ℕ) → (count : ℕ) → ℕ
ways_home cols goal board zero = 0
ways_home cols goal board (suc cell) =
    ways_home cols goal board cell + way_home cols goal cell (slice_index board cell)

-- the distance of a tile's cell on a board from its cell on the goal board
abbrev pub tile_way : (cols : ℕ) → (goal board : List ℕ) → (number : ℕ) → ℕ
tile_way cols goal board number =
    manhattan (place_of cols (cell_with board number)) (place_of cols (cell_with goal number))

-- the distances of the tiles 1, 2 and so on up to a number, summed
abbrev pub tile_ways : (cols : ℕ) → (goal board : List ℕ) → (number : ℕ) → ℕ
tile_ways cols goal board zero = 0
tile_ways cols goal board (suc number) =
    tile_ways cols goal board number + tile_way cols goal board (suc number)

-- the estimate of a state of a task, by the task's kind alone
abbrev pub estimate_of : TaskParts → (state : ℕ) → Estimate
estimate_of (Grid grid) state = Cost (manhattan (cell_of state) grid.goal)
estimate_of (Tiles tiles) state =
    Cost (ways_home tiles.cols tiles.goal (board_of (cell_count tiles) state) (cell_count tiles))
estimate_of (Strips strips) state = hmax strips state

-- ---- the choice of an estimate

-- the greater of two estimates, and Dead if one is
abbrev pub greater : (one other : Estimate) → Estimate
greater Dead other = Dead
greater (Cost cost) Dead = Dead
greater (Cost cost) (Cost least) = Cost (max cost least)

-- The estimate of a state by tables: Dead if a goal holds nowhere. Only STRIPS tasks have tables.
abbrev pub estimate_by_tables : TaskParts → TablesValue → (state : ℕ) → Estimate
estimate_by_tables (Grid grid) tables state = estimate_of (Grid grid) state
estimate_by_tables (Tiles tiles) tables state = estimate_of (Tiles tiles) state
estimate_by_tables (Strips strips) tables state =
    if strips.never then Dead else tables_estimate strips tables state

-- The estimate of a state of a task by this choice. By a pattern it is the greater of the plain
-- estimate and the pattern value.
abbrev pub estimate_by : TaskParts → Choice → (state : ℕ) → Estimate
estimate_by parts Plain state = estimate_of parts state
estimate_by parts (Pattern number) state =
    greater (estimate_of parts state) (pattern_value parts number state)
estimate_by parts (Tables tables) state = estimate_by_tables parts tables state

-- whether tables suit a task; they suit STRIPS tasks alone
abbrev pub tables_suit : TaskParts → TablesValue → Bool
tables_suit (Grid grid) tables = false
tables_suit (Tiles tiles) tables = false
tables_suit (Strips strips) tables = suit strips tables

-- whether a task may be searched and judged by this choice: its estimates are admissible
abbrev pub suits : TaskParts → Choice → Bool
suits parts Plain = true
suits parts (Pattern number) = nat_le 1 number && nat_le number 12
suits parts (Tables tables) = tables_suit parts tables
