-- Pattern values: the least cost of a walk of the projected task from a state's image to a
-- projected goal.
use Rattle.std.specs.Prelude.{ℕ, suc, ◌^◌, List, length}
use Rattle.pb_model.specs.declared.row.Estimate.{Estimate}
use Rattle.pb_model.specs.declared.row.Estimate.TheVariants.{Cost}
use Rattle.pb_task.specs.declared.parts.TaskParts.{TaskParts}
use Rattle.pb_task.specs.declared.parts.TaskParts.TheVariants.{Grid, Tiles, Strips}
use Rattle.pb_task.specs.declared.parts.StripsParts.{StripsParts}
use Rattle.pb_task.specs.declared.parts.TilesParts.{TilesParts}
use Rattle.pb_task.specs.Strips.{strips_space}
use Rattle.pb_pattern.specs.Least.{least_cost}
use Rattle.pb_pattern.specs.Projected.{tracked_tiles, placing_space, image_of_board, tracked_atoms, image_of_set, projected_strips}

abbrev pub tiles_value : TilesParts → (tracked state : ℕ) → Estimate
tiles_value tiles tracked state =
    least_cost (placing_space tiles tracked) (16 ^ (suc tracked))
    (image_of_board tiles tracked state)

abbrev pub strips_value : StripsParts → (tracked : List ℕ) → (state : ℕ) → Estimate
strips_value strips tracked state =
    least_cost (strips_space (projected_strips strips tracked)) (2 ^ length tracked)
    (image_of_set tracked state)

-- the pattern value of a state of a task
abbrev pub pattern_value : TaskParts → (pattern state : ℕ) → Estimate
pattern_value (Grid grid) pattern state = Cost 0
pattern_value (Tiles tiles) pattern state = tiles_value tiles (tracked_tiles tiles pattern) state
pattern_value (Strips strips) pattern state =
    strips_value strips (tracked_atoms strips pattern) state
