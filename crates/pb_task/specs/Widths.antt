-- How many hexadecimal digits spell a state of a task, four bits each.
use Rattle.std.specs.Prelude.{ℕ, ◌+◌, ◌/◌, ◌^◌, ◌<◌, ◌≤◌, IsTrue, if◌then◌else◌, ◌==◌}
use Rattle.pb_packed.specs.Sizes.{most_digits}
use Rattle.pb_task.specs.declared.parts.TaskParts.{TaskParts}
use Rattle.pb_task.specs.declared.parts.TaskParts.TheVariants as parts
use Rattle.pb_task.specs.Tiles.{cell_count}
use Rattle.pb_task.specs.Parts.{space_of, IsTask}

-- the digits of so many bits, at least one
abbrev pub digits_for : (bits : ℕ) → ℕ
digits_for bits = if bits == 0 then 1 else (bits + 3) / 4

-- A cell of a grid takes 22 bits, hence 6 digits. A board has a digit for each cell, and a STRIPS
-- task a bit for each atom.
abbrev pub width_of : TaskParts → ℕ
width_of (parts.Grid grid) = 6
width_of (parts.Tiles tiles) = cell_count tiles
width_of (parts.Strips strips) = digits_for strips.atoms

-- A state of a task has no more digits than the task's width, and that is 1 to 256.
abbrev pub StatesFitTheirWidth : Type 0
StatesFitTheirWidth =
    (parts : TaskParts) → IsTask parts
    → (1 ≤ width_of parts) × (width_of parts ≤ most_digits)
    × ((state : ℕ) → IsTrue ((space_of parts).is_state state) → state < 16 ^ width_of parts)
