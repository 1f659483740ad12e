-- The tasks that a seed and a size make.
use Rattle.std.specs.Prelude.{ℕ, ◌-◌, ◌==◌, false, map, if◌then◌else◌}
use Rattle.pb_task.specs.declared.parts.Class.{Class}
use Rattle.pb_task.specs.declared.parts.Class.TheVariants.{Blocked, Land}
use Rattle.pb_task.specs.declared.parts.GridParts.{GridParts}
use Rattle.pb_task.specs.declared.parts.TilesParts.{TilesParts}
use Rattle.pb_make.specs.Boards.{goal_board, made_board}
use Rattle.pb_make.specs.Maps.{map_cells}

-- the class of a drawn cell: `@` is blocked, `.` is land
abbrev pub class_of_cell : (byte : ℕ) → Class
class_of_cell byte = if byte == 64 then Blocked else Land

-- a square grid of the drawn cells, none of which is swamp, from the first cell to the last
abbrev pub made_grid : (seed side : ℕ) → GridParts
made_grid seed side = record {
  width = side;
  height = side;
  cells = map class_of_cell (map_cells seed side);
  swamp = map (λ cell. false) (map_cells seed side);
  start = (0, 0);
  goal = (side - 1, side - 1);
}

-- tiles, 3 by 3, from the made board to the usual goal
abbrev pub made_tiles : (seed moves : ℕ) → TilesParts
made_tiles seed moves =
    record { rows = 3; cols = 3; start = made_board seed moves; goal = goal_board }
