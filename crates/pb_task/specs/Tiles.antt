-- Sliding tiles (W. W. Johnson and W. E. Story, "Notes on the 15 puzzle", 1879): a state lists the
-- numbers of a board's cells, row by row from the upper left cell on. An action exchanges the
-- blank, which is 0, with the number in the cell above, below, left or right of it, at cost 1.
use Rattle.std.specs.Prelude.{ℕ, ◌+◌, ◌*◌, ◌/◌, ◌%◌, ◌^◌, ◌≤◌, zero, suc, Bool, true, not, IsTrue, List, [], ◌∷◌, length, Option, None, Some, if◌then◌else◌, nat_lt, ◌==◌, ◌&&◌, swap, position}
use Rattle.std.specs.List.{list_any, list_all}
use Rattle.pb_model.specs.Space.{Space}
use Rattle.pb_task.specs.Grid.{cell_beside}
use Rattle.pb_task.specs.declared.parts.TilesParts.{TilesParts}

-- how many cells a board has
abbrev pub cell_count : TilesParts → ℕ
cell_count tiles = tiles.rows * tiles.cols

-- ---- boards

-- no number is twice in the list
abbrev pub are_distinct : List ℕ → Bool
are_distinct [] = true
are_distinct (number ∷ numbers) =
    not (list_any (λ other. other == number) numbers) && are_distinct numbers

-- the list has the numbers from 0 to below `count`, each once
abbrev pub is_board : (count : ℕ) → List ℕ → Bool
is_board count board =
    length board == count && (list_all (λ number. nat_lt number count) board && are_distinct board)

-- ---- boards as states

-- a board as a state: the number in cell i in the bits 4i to 4i+3, and all other bits 0
abbrev pub board_state : List ℕ → ℕ
board_state [] = 0
board_state (number ∷ board) = number + 16 * board_state board

-- the numbers in the first `count` cells of a state
abbrev pub board_of : (count state : ℕ) → List ℕ
board_of zero state = []
board_of (suc count) state = state % 16 ∷ board_of count (state / 16)

-- a state is a board, with all other bits 0
abbrev pub is_board_state : (count state : ℕ) → Bool
is_board_state count state = nat_lt state (16 ^ count) && is_board count (board_of count state)

-- ---- steps

-- the cell in a column and a row, if the board has it
abbrev pub cell_on : (rows cols : ℕ) → (place : Option (ℕ × ℕ)) → Option ℕ
cell_on rows cols None = None
cell_on rows cols (Some place) =
    if nat_lt place.0 cols && nat_lt place.1 rows then Some (place.1 * cols + place.0) else None

-- the cell beside a cell in an action's direction: 0 is up, 1 down, 2 left, 3 right; none if the
-- board ends there
abbrev pub neighbour : (rows cols cell action : ℕ) → Option ℕ
neighbour rows cols cell action = cell_on rows cols (cell_beside (cell % cols) (cell / cols) action)

-- the numbers in two cells change places
abbrev pub exchange : (board : List ℕ) → (blank : ℕ) → (other : Option ℕ) → Option (ℕ × ℕ)
exchange board blank None = None
exchange board blank (Some other) = Some (board_state (swap board blank other), 1)

-- the blank of a board, which is in this cell, moves in an action's direction
abbrev pub slide : (rows cols : ℕ) → (board : List ℕ) → (blank : Option ℕ) → (action : ℕ)
    → Option (ℕ × ℕ)
slide rows cols board None action = None
slide rows cols board (Some blank) action = exchange board blank (neighbour rows cols blank action)

-- the cell that the blank is in
abbrev pub blank_of : (board : List ℕ) → Option ℕ
blank_of board = position (λ number. number == 0) board

abbrev pub slide_on : (rows cols : ℕ) → (board : List ℕ) → (action : ℕ) → Option (ℕ × ℕ)
slide_on rows cols board action = slide rows cols board (blank_of board) action

abbrev pub tiles_step : TilesParts → (state action : ℕ) → Option (ℕ × ℕ)
tiles_step tiles state action =
    if is_board_state (cell_count tiles) state then slide_on tiles.rows tiles.cols
    (board_of (cell_count tiles) state) action else None

-- the state space of sliding tiles
abbrev pub tiles_space : TilesParts → Space
tiles_space tiles = record {
  start = board_state tiles.start;
  is_state = is_board_state (cell_count tiles);
  is_goal = λ state. state == board_state tiles.goal;
  actions = 4;
  step = tiles_step tiles;
}

-- There are 2 to 4 rows and 2 to 4 columns, and start and goal are boards.
pub record IsTiles (tiles : TilesParts) : Type 0 where
  pub rows : (2 ≤ tiles.rows) × (tiles.rows ≤ 4)
  pub cols : (2 ≤ tiles.cols) × (tiles.cols ≤ 4)
  pub start : IsTrue (is_board (cell_count tiles) tiles.start)
  pub goal : IsTrue (is_board (cell_count tiles) tiles.goal)
