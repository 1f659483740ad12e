-- The task that made texts spell.
use Rattle.std.specs.Prelude.{◌≡◌, ℕ, ◌≤◌, false, Ok, None}
use Rattle.pb_task.specs.declared.parts.TaskParts.{TaskParts}
use Rattle.pb_task.specs.declared.parts.TaskParts.TheVariants as parts
use Rattle.pb_grid.specs.Form.{SpellsGrid}
use Rattle.pb_grid.specs.Reading.{grid_reading, task_of}
use Rattle.pb_tiles.specs.Reading.{tiles_reading}
use Rattle.pb_tiles.specs.Spelling.{SpellsTiles}
use Rattle.pb_pddl.specs.declared.tree.Domain.{Domain}
use Rattle.pb_pddl.specs.declared.tree.Problem.{Problem}
use Rattle.pb_pddl.specs.Readings.{domain_reading, problem_reading}
use Rattle.pb_strips.specs.Grounding.{strips_of}
use Rattle.pb_strips.specs.Refusals.{first_fault}
use Rattle.pb_task.specs.declared.kind.Kind.{Kind}
use Rattle.pb_task.specs.declared.kind.Kind.TheVariants.{Grid, Tiles, Strips}
use Rattle.pb_make.specs.Boards.{tiles_text}
use Rattle.pb_make.specs.Domain.{domain_text}
use Rattle.pb_make.specs.Maps.{map_text, scenario_text}
use Rattle.pb_make.specs.Problems.{problem_text}
use Rattle.pb_make_laws.specs.Made.{made_grid, made_tiles}

-- the sizes of a kind: cells on each side, moves, or blocks
abbrev pub IsSize : Kind → (size : ℕ) → Type 0
IsSize Grid side = (1 ≤ side) × (side ≤ 2048)
IsSize Tiles moves = moves ≤ 1000000
IsSize Strips blocks = (1 ≤ blocks) × (blocks ≤ 14)

-- The texts of this kind, seed and size are read as this task, without swamp. The texts of a map
-- and its scenario, and of a board, spell the made task. Those of the domain of the blocks world
-- and of a problem are trees that are a task.
abbrev pub IsMadeTask : Kind → (seed size : ℕ) → TaskParts → Type 0
IsMadeTask Grid seed side task =
    (task_of (grid_reading (map_text seed side) (scenario_text side) 0 false) ≡ Ok task)
    × SpellsGrid (map_text seed side) (scenario_text side) 0 false (made_grid seed side)
    × (task ≡ parts.Grid (made_grid seed side))
IsMadeTask Tiles seed moves task =
    (tiles_reading (tiles_text seed moves) ≡ Ok (made_tiles seed moves))
    × SpellsTiles (tiles_text seed moves) (made_tiles seed moves)
    × (task ≡ parts.Tiles (made_tiles seed moves))
IsMadeTask Strips seed blocks task =
    (domain : Domain) × (problem : Problem) × (domain_reading domain_text ≡ Ok domain)
    × (problem_reading (problem_text seed blocks) ≡ Ok problem)
    × (first_fault domain problem ≡ None) × (task ≡ parts.Strips (strips_of domain problem))

-- P holds of the made task
abbrev pub OfMade : Kind → (seed size : ℕ) → (P : TaskParts → Type 0) → Type 0
OfMade kind seed size P = (task : TaskParts) × IsMadeTask kind seed size task × P task
