-- Which ground atoms and actions of a task have numbers, and what certificates call it. Grids and
-- sliding tiles have no ground atoms: nothing of them is left out.
use Rattle.std.specs.Prelude.{ℕ, List, codes}
use Rattle.pb_task.specs.declared.parts.TaskParts.{TaskParts}
use Rattle.pb_task.specs.declared.parts.TaskParts.TheVariants as parts
use Rattle.pb_task.specs.declared.grounding.Grounding.{Grounding}
use Rattle.pb_task.specs.declared.grounding.Grounding.TheVariants.{All, Reachable}

abbrev pub grounding_of : TaskParts → Grounding
grounding_of (parts.Grid grid) = All
grounding_of (parts.Tiles tiles) = All
grounding_of (parts.Strips strips) = strips.grounding

abbrev pub grounding_name : Grounding → List ℕ
grounding_name All = codes "all"
grounding_name Reachable = codes "reachable"
