-- The kinds of tasks, and what command lines and certificates call them. A further kind of task is
-- one case more of each definition.
use Rattle.std.specs.Prelude.{ℕ, List, codes}
use Rattle.pb_task.specs.declared.parts.TaskParts.{TaskParts}
use Rattle.pb_task.specs.declared.parts.TaskParts.TheVariants as parts
use Rattle.pb_task.specs.declared.kind.Kind.{Kind}
use Rattle.pb_task.specs.declared.kind.Kind.TheVariants.{Grid, Tiles, Strips}

abbrev pub kind_of : TaskParts → Kind
kind_of (parts.Grid grid) = Grid
kind_of (parts.Tiles tiles) = Tiles
kind_of (parts.Strips strips) = Strips

abbrev pub kind_name : Kind → List ℕ
kind_name Grid = codes "grid"
kind_name Tiles = codes "tiles"
kind_name Strips = codes "strips"
