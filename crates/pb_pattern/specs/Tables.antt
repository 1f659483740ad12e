-- The table of a task. A further kind of task is one case more.
use Rattle.std.specs.Prelude.{◌≡◌, ℕ, suc, ◌≤◌, ◌^◌, List, length}
use Rattle.pb_task.specs.declared.parts.TaskParts.{TaskParts}
use Rattle.pb_task.specs.declared.parts.TaskParts.TheVariants.{Grid, Tiles, Strips}
use Rattle.pb_task.specs.declared.parts.StripsParts.{StripsParts}
use Rattle.pb_task.specs.declared.parts.TilesParts.{TilesParts}
use Rattle.pb_task.specs.Strips.{strips_space}
use Rattle.pb_pattern.specs.Projected.{tracked_tiles, placing_space, tracked_atoms, projected_strips}
use Rattle.pb_pattern.specs.Costs.{AreLeast}

-- what contracts see of a table
pub record TableValue : Type 0 where
  pub pattern : ℕ  -- the pattern number
  pub tracked : List ℕ  -- the tracked atoms; none if the task isn't of STRIPS
  pub costs : List ℕ  -- the cost of each image, by its number

-- the least costs of the placings of a board's pieces
abbrev pub AreOfTiles : TilesParts → (pattern : ℕ) → (costs : List ℕ) → Type 0
AreOfTiles tiles pattern costs =
    AreLeast (placing_space tiles (tracked_tiles tiles pattern))
    (16 ^ (suc (tracked_tiles tiles pattern))) costs

-- the least costs of the sets of some atoms
abbrev pub AreOfStrips : StripsParts → (tracked costs : List ℕ) → Type 0
AreOfStrips strips tracked costs =
    AreLeast (strips_space (projected_strips strips tracked)) (2 ^ length tracked) costs

-- The table is of this task, for its pattern number.
unfoldable pub IsOfTask : TableValue → TaskParts → Type 0
IsOfTask table (Grid grid) = Unit {0}
IsOfTask table (Tiles tiles) = AreOfTiles tiles table.pattern table.costs
IsOfTask table (Strips strips) =
    (table.tracked ≡ tracked_atoms strips table.pattern) × (table.pattern ≤ 12)
    × AreOfStrips strips table.tracked table.costs
