-- The marks of swamp that a map keeps, or that none of its cells is swamp.
use Rattle.std.specs.Prelude.{Bool, false, List, replicate}
use Rattle.pb_task.specs.declared.parts.SwampMarks.{SwampMarks}
use Rattle.pb_task.specs.declared.parts.SwampMarks.TheVariants.{Marks, NoneOf}

-- a mark for each cell
abbrev pub marks_of : SwampMarks → List Bool
marks_of (Marks marks) = marks.items
marks_of (NoneOf count) = replicate count false
