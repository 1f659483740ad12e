-- A board of sliding tiles, 3 by 3, after drawn moves.
use Rattle.std.specs.Prelude.{ℕ, zero, suc, ◌+◌, ◌-◌, ◌%◌, ◌==◌, nat_lt, List, [], ◌∷◌, map, codes, Option, None, Some, if◌then◌else◌}
use Rattle.std.specs.List.{fold, join_with_byte, position, range_with_len, swap}
use Rattle.std.specs.Fmt.{decimal}
use Rattle.pb_make.specs.Draws.{draws}
use Rattle.pb_make.specs.Lines.{line, lines, rows_of}

-- the goal: the blank, which is 0, and the tiles 1 to 8, row by row
abbrev pub goal_board : List ℕ
goal_board = range_with_len 0 9

-- the cell above a cell (0), below it (1), to its left (2) or to its right (3), if the board has it
abbrev pub cell_beside : (cell direction : ℕ) → Option ℕ
cell_beside cell zero = if nat_lt cell 3 then None else Some (cell - 3)
cell_beside cell (suc zero) = if nat_lt cell 6 then Some (cell + 3) else None
cell_beside cell (suc (suc zero)) = if cell % 3 == 0 then None else Some (cell - 1)
cell_beside cell (suc (suc (suc direction))) = if cell % 3 == 2 then None else Some (cell + 1)

-- the board after the tiles in two cells change places, if there are two
abbrev pub exchanged : (board : List ℕ) → (one other : Option ℕ) → List ℕ
exchanged board None other = board
exchanged board (Some one) None = board
exchanged board (Some one) (Some other) = swap board one other

-- where the blank is
abbrev pub blank_of : (board : List ℕ) → Option ℕ
blank_of board = position (λ tile. tile == 0) board

-- the cell that the blank goes to
abbrev pub target_of : (blank : Option ℕ) → (direction : ℕ) → Option ℕ
target_of None direction = None
target_of (Some cell) direction = cell_beside cell direction

-- the board after a draw, which moves the blank if the board allows it
abbrev pub moved : (board : List ℕ) → (draw : ℕ) → List ℕ
moved board draw = exchanged board (blank_of board) (target_of (blank_of board) (draw % 4))

-- the board that these draws make of the goal
abbrev pub made_board : (seed moves : ℕ) → List ℕ
made_board seed moves = fold moved goal_board (draws moves seed)

-- a row of a board: its numbers with a space between each two
abbrev pub board_row : (row : List ℕ) → List ℕ
board_row row = join_with_byte 32 (map decimal row)

-- a row of three numbers as a line
abbrev pub row_line : (left middle right : ℕ) → List ℕ
row_line left middle right = line (board_row (left ∷ middle ∷ right ∷ []))

abbrev pub board_text : (board : List ℕ) → List ℕ
board_text board = lines (codes "3 3" ∷ map board_row (rows_of 3 3 board))

abbrev pub tiles_text : (seed moves : ℕ) → List ℕ
tiles_text seed moves = board_text (made_board seed moves)
