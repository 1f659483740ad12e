-- How the edges of a grid's squares are found: along the border of a square in each of the four
-- directions.
use Rattle.std.specs.Prelude.{ℕ, zero, suc, ◌+◌, ◌-◌, ◌*◌, ◌/◌, ◌%◌, Bool, false, Option, None, Some, ◌==◌, if◌then◌else◌}
use Rattle.pb_machine.specs.Tables.{any_below}
use Rattle.pb_task.specs.declared.parts.Class.{Class}
use Rattle.pb_task.specs.declared.parts.GridParts.{GridParts}
use Rattle.pb_task.specs.Grid.{class_at, are_connected, cell_beside}

-- whether it is this number
abbrev pub is_number : Option ℕ → (number : ℕ) → Bool
is_number None number = false
is_number (Some other) number = other == number

-- cell i on the border of a square in an action's direction, counted from its left or upper end
abbrev pub border_cell : (side column row action i : ℕ) → ℕ × ℕ
border_cell side column row zero i = (column * side + i, row * side)
border_cell side column row (suc zero) i = (column * side + i, row * side + (side - 1))
border_cell side column row (suc (suc zero)) i = (column * side, row * side + i)
border_cell side column row (suc (suc (suc more))) i = (column * side + (side - 1), row * side + i)

-- whether a cell of the class can be left for this cell
abbrev pub is_joined : GridParts → (from : Class) → (cell : Option (ℕ × ℕ)) → Bool
is_joined grid from None = false
is_joined grid from (Some cell) = are_connected from (class_at grid cell.0 cell.1)

-- whether a cell can be left in an action's direction
abbrev pub are_joined : GridParts → (cell : ℕ × ℕ) → (action : ℕ) → Bool
are_joined grid cell action =
    is_joined grid (class_at grid cell.0 cell.1) (cell_beside cell.0 cell.1 action)

-- whether a cell on the border of a square can be left there
abbrev pub crosses : GridParts → (side column row action : ℕ) → Bool
crosses grid side column row action =
    any_below side (λ i. are_joined grid (border_cell side column row action i) action)

-- the number of the square in a column and a row of squares
abbrev pub number_in : (columns : ℕ) → (square : Option (ℕ × ℕ)) → Option ℕ
number_in columns None = None
number_in columns (Some square) = Some (square.1 * columns + square.0)

-- the square beside a square in an action's direction, if a cell on the border between them can be
-- left for the cell beyond it
abbrev pub beyond : GridParts → (side columns block action : ℕ) → Option ℕ
beyond grid side columns block action =
    if crosses grid side (block % columns) (block / columns) action
    then number_in columns (cell_beside (block % columns) (block / columns) action) else None
