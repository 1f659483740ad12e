-- The laws of this crate. Each is proved, as the contract of the public function that has its name.
use Rattle.std.specs.Prelude.{◌≡◌, ℕ, ◌≤◌, true, false, is_ok, Ok, None}
use Rattle.pb_grid.specs.Form.{SpellsGrid}
use Rattle.pb_tiles.specs.Spelling.{SpellsTiles}
use Rattle.pb_make.specs.Boards.{tiles_text}
use Rattle.pb_pddl.specs.declared.tree.Domain.{Domain}
use Rattle.pb_pddl.specs.declared.tree.Problem.{Problem}
use Rattle.pb_pddl.specs.Readings.{domain_reading, problem_reading}
use Rattle.pb_strips.specs.Refusals.{first_fault}
use Rattle.pb_make.specs.Domain.{domain_text}
use Rattle.pb_make.specs.Maps.{map_text, scenario_text}
use Rattle.pb_make.specs.Problems.{problem_text}
use Rattle.pb_make_laws.specs.Made.{made_grid, made_tiles}

-- The texts of a made map and of its scenario spell the made grid, in the scenario's first row and
-- without swamp.
abbrev pub MadeMapsAreSpelled : Type 0
MadeMapsAreSpelled =
    (seed side : ℕ) → 1 ≤ side → side ≤ 2048 → SpellsGrid (map_text seed side) (scenario_text side)
    0 false (made_grid seed side)

-- The text of a made board spells the made tiles.
abbrev pub MadeBoardsAreSpelled : Type 0
MadeBoardsAreSpelled =
    (seed moves : ℕ) → SpellsTiles (tiles_text seed moves) (made_tiles seed moves)

-- The text of the domain of the blocks world is read without a refusal: it is of the grammar.
abbrev pub BlocksDomainIsRead : Type 0
BlocksDomainIsRead = is_ok (domain_reading domain_text) ≡ true

-- The text of a made problem is read, and with the domain of the blocks world it is a task. Both
-- are well typed, and there are neither too many ground atoms nor too many ground actions.
abbrev pub MadeProblemsAreTasks : Type 0
MadeProblemsAreTasks =
    (seed blocks : ℕ) → 1 ≤ blocks → blocks ≤ 14
    → (domain : Domain) × (problem : Problem) × (domain_reading domain_text ≡ Ok domain)
    × (problem_reading (problem_text seed blocks) ≡ Ok problem)
    × (first_fault domain problem ≡ None)
