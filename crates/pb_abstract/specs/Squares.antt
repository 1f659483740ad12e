-- Blocks of a grid: the map is cut into squares, row by row from the upper left one on, and the
-- cells of a square are one block.
use Rattle.std.specs.Prelude.{◌≡◌, ℕ, ◌+◌, ◌*◌, ◌/◌, ◌<◌, ◌≤◌, true, Some}
use Rattle.std.specs.Int.{div_ceil}
use Rattle.pb_task.specs.declared.parts.GridParts.{GridParts}
use Rattle.pb_task.specs.Grid.{class_at, are_connected, cell_beside}

-- how many squares are side by side, if each side has this many cells
abbrev pub column_count : GridParts → (side : ℕ) → ℕ
column_count grid side = div_ceil grid.width side

-- how many squares there are, if each side has this many cells; at the right and at the lower end a
-- square may be cut off
abbrev pub square_count : GridParts → (side : ℕ) → ℕ
square_count grid side = column_count grid side * div_ceil grid.height side

-- the square that a cell lies in
abbrev pub square_of : GridParts → (side x y : ℕ) → ℕ
square_of grid side x y = (y / side) * column_count grid side + x / side

-- Two cells that lie side by side and are both land or both water: the one in the one square, the
-- other in the other.
pub record IsSquareEdge (grid : GridParts) (side block other : ℕ) : Type 0 where
  pub x : ℕ
  pub y : ℕ
  pub action : ℕ
  pub cell : ℕ × ℕ
  pub beside : cell_beside x y action ≡ Some cell
  pub connected : are_connected (class_at grid x y) (class_at grid cell.0 cell.1) ≡ true
  pub from : square_of grid side x y ≡ block
  pub to : square_of grid side cell.0 cell.1 ≡ other

-- It is the least side with which there are at most so many squares.
pub record IsLeastSide (grid : GridParts) (wish side : ℕ) : Type 0 where
  pub positive : 1 ≤ side
  pub enough : square_count grid side ≤ wish
  pub least : (other : ℕ) → 1 ≤ other → other < side → wish < square_count grid other
