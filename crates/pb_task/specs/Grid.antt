-- Grids: the states are the land and water cells of a map. An action leads to the cell beside the
-- state's cell if both have the same class. It costs 2 into swamp and else 1.
use Rattle.std.specs.Prelude.{◌≡◌, ℕ, zero, suc, ◌+◌, ◌-◌, ◌*◌, ◌^◌, ◌≤◌, Bool, true, false, IsTrue, List, length, codes, Option, None, Some, unwrap_or, slice_get, if◌then◌else◌, nat_lt, ◌==◌, ◌&&◌}
use Rattle.pb_packed.specs.Bits.{bits_of}
use Rattle.pb_model.specs.Space.{Space}
use Rattle.pb_task.specs.declared.parts.Class.{Class}
use Rattle.pb_task.specs.declared.parts.Class.TheVariants.{Land, Water, Blocked}
use Rattle.pb_task.specs.declared.parts.GridParts.{GridParts}

-- a cell of this class can be entered at all
abbrev pub is_passable : Class → Bool
is_passable Land = true
is_passable Water = true
is_passable Blocked = false

-- a cell of the one class can be left for one of the other that lies beside it
abbrev pub are_connected : (from to : Class) → Bool
are_connected Land Land = true
are_connected Land Water = false
are_connected Land Blocked = false
are_connected Water Land = false
are_connected Water Water = true
are_connected Water Blocked = false
are_connected Blocked to = false

-- the class of the cell in this column and row, counted from the upper left cell; off the map each
-- cell is blocked
abbrev pub class_at : GridParts → (x y : ℕ) → Class
class_at grid x y =
    if nat_lt x grid.width && nat_lt y grid.height then unwrap_or
    (slice_get grid.cells (y * grid.width + x)) Blocked else Blocked

-- the cell in this column and row is swamp; off the map none is
abbrev pub is_swamp : GridParts → (x y : ℕ) → Bool
is_swamp grid x y =
    if nat_lt x grid.width && nat_lt y grid.height then unwrap_or
    (slice_get grid.swamp (y * grid.width + x)) false else false

-- what it costs to enter a cell
abbrev pub entry_cost : GridParts → (x y : ℕ) → ℕ
entry_cost grid x y = if is_swamp grid x y then 2 else 1

-- a cell as a state: x in the bits 0 to 10 and y in the bits 11 to 21, and all other bits 0
abbrev pub cell_state : (x y : ℕ) → ℕ
cell_state x y = x + y * 2 ^ 11

-- the class of the cell that a state represents; a number with another bit that is 1 represents no
-- cell
abbrev pub class_of_state : GridParts → (state : ℕ) → Class
class_of_state grid state =
    if nat_lt state (2 ^ 22) then class_at grid (bits_of state 0 11) (bits_of state 11 11)
    else Blocked

-- the cell beside a cell in an action's direction: 0 is up, 1 down, 2 left, 3 right
abbrev pub cell_beside : (x y action : ℕ) → Option (ℕ × ℕ)
cell_beside x y zero = if nat_lt 0 y then Some (x, y - 1) else None
cell_beside x y (suc zero) = Some (x, y + 1)
cell_beside x y (suc (suc zero)) = if nat_lt 0 x then Some (x - 1, y) else None
cell_beside x y (suc (suc (suc zero))) = Some (x + 1, y)
cell_beside x y (suc (suc (suc (suc more)))) = None

-- the step from a cell of the class to this cell, if the two are connected
abbrev pub step_to : GridParts → (from : Class) → (cell : Option (ℕ × ℕ)) → Option (ℕ × ℕ)
step_to grid from None = None
step_to grid from (Some cell) =
    if are_connected from (class_at grid cell.0 cell.1)
    then Some (cell_state cell.0 cell.1, entry_cost grid cell.0 cell.1) else None

abbrev pub grid_step : GridParts → (state action : ℕ) → Option (ℕ × ℕ)
grid_step grid state action =
    step_to grid (class_of_state grid state)
    (cell_beside (bits_of state 0 11) (bits_of state 11 11) action)

-- the state space of a grid
abbrev pub grid_space : GridParts → Space
grid_space grid = record {
  start = cell_state grid.start.0 grid.start.1;
  is_state = λ state. is_passable (class_of_state grid state);
  is_goal = λ state. state == cell_state grid.goal.0 grid.goal.1;
  actions = 4;
  step = grid_step grid;
}

-- the name of an action
abbrev pub direction : (action : ℕ) → List ℕ
direction zero = codes "up"
direction (suc zero) = codes "down"
direction (suc (suc zero)) = codes "left"
direction (suc (suc (suc more))) = codes "right"

-- Each side has 1 to 2,048 cells, there are as many classes and marks of swamp as cells, and start
-- and goal can be entered.
pub record IsGrid (grid : GridParts) : Type 0 where
  pub width : (1 ≤ grid.width) × (grid.width ≤ 2048)
  pub height : (1 ≤ grid.height) × (grid.height ≤ 2048)
  pub area : length grid.cells ≡ grid.width * grid.height
  pub swamp : length grid.swamp ≡ grid.width * grid.height
  pub start : IsTrue (is_passable (class_at grid grid.start.0 grid.start.1))
  pub goal : IsTrue (is_passable (class_at grid grid.goal.0 grid.goal.1))
