-- What the parts of a task of any kind mean. A further kind of task is one case more of each
-- definition.
use Rattle.std.specs.Prelude.{ℕ, ◌^◌, List}
use Rattle.pb_model.specs.Space.{Space}
use Rattle.pb_task.specs.declared.parts.TaskParts.{TaskParts}
use Rattle.pb_task.specs.declared.parts.TaskParts.TheVariants.{Grid, Tiles, Strips}
use Rattle.pb_task.specs.Grid.{grid_space, direction, IsGrid}
use Rattle.pb_task.specs.Tiles.{tiles_space, IsTiles}
use Rattle.pb_task.specs.Strips.{strips_space, name_in, IsStrips}

-- the state space of a task
abbrev pub space_of : TaskParts → Space
space_of (Grid grid) = grid_space grid
space_of (Tiles tiles) = tiles_space tiles
space_of (Strips strips) = strips_space strips

-- the parts make up a task
abbrev pub IsTask : TaskParts → Type 0
IsTask (Grid grid) = IsGrid grid
IsTask (Tiles tiles) = IsTiles tiles
IsTask (Strips strips) = IsStrips strips

-- what an action is called in a plan
abbrev pub action_name : TaskParts → (action : ℕ) → List ℕ
action_name (Grid grid) action = direction action
action_name (Tiles tiles) action = direction action
action_name (Strips strips) action = name_in strips.actions action

-- no state has more successors
abbrev pub max_degree_of : TaskParts → ℕ
max_degree_of parts = (space_of parts).actions

-- no action costs more
abbrev pub greatest_cost : ℕ
greatest_cost = 2 ^ 20
