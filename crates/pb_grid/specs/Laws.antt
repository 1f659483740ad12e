-- The laws of this crate. Each is proved, as the contract of the public function that has its name.
use Rattle.std.specs.Prelude.{◌≡◌, ℕ, Bool, List, Ok, Err}
use Rattle.pb_task.specs.declared.parts.GridParts.{GridParts}
use Rattle.pb_task.specs.Grid.{IsGrid}
use Rattle.pb_grid.specs.declared.error.GridError.TheVariants.{Memory}
use Rattle.pb_grid.specs.Form.{SpellsGrid}
use Rattle.pb_grid.specs.Lines.{lines_of}
use Rattle.pb_grid.specs.Reading.{grid_reading, swamp_of}
use Rattle.pb_grid.specs.Cases.{IsCaseOf}
use Rattle.pb_grid.specs.declared.error.GridError.{GridError}

-- If two texts are read without a refusal, the result is a grid that they spell. A grid that they
-- spell is read.
abbrev pub ReadAsSpelled : Type 0
ReadAsSpelled =
    (map_text scenario_text : List ℕ) (row : ℕ) (swamp : Bool) (grid : GridParts)
    → (grid_reading map_text scenario_text row swamp ≡ Ok grid
    → SpellsGrid map_text scenario_text row swamp grid)
    × (SpellsGrid map_text scenario_text row swamp grid
    → grid_reading map_text scenario_text row swamp ≡ Ok grid)

-- Two texts and a row spell one grid at most, with swamp or without.
abbrev pub SpelledGridsAreUnique : Type 0
SpelledGridsAreUnique =
    (map_text scenario_text : List ℕ) (row : ℕ) (swamp : Bool) (grid other : GridParts)
    → SpellsGrid map_text scenario_text row swamp grid
    → SpellsGrid map_text scenario_text row swamp other → grid ≡ other

-- Two texts that spell a grid with swamp spell the same grid without it, and the other way round:
-- only the marks differ.
abbrev pub SwampChangesMarksAlone : Type 0
SwampChangesMarksAlone =
    (map_text scenario_text : List ℕ) (row : ℕ) (swamp other : Bool) (grid : GridParts)
    → grid_reading map_text scenario_text row swamp ≡ Ok grid
    → grid_reading map_text scenario_text row other
    ≡ Ok (record grid { swamp = swamp_of other grid.height (lines_of map_text) })

-- What two texts spell makes up a task.
abbrev pub SpelledGridsAreGrids : Type 0
SpelledGridsAreGrids =
    (map_text scenario_text : List ℕ) (row : ℕ) (swamp : Bool) (grid : GridParts)
    → SpellsGrid map_text scenario_text row swamp grid → IsGrid grid

-- Running out of memory is no refusal of a text.
abbrev pub RefusalsAreOfTexts : Type 0
RefusalsAreOfTexts =
    (map_text scenario_text : List ℕ) (row : ℕ) (swamp : Bool)
    → grid_reading map_text scenario_text row swamp ≡ Err Memory → ⊥

-- Each refusal is reported exactly in its case, with swamp or without.
abbrev pub RefusalsHaveTheirCase : Type 0
RefusalsHaveTheirCase =
    (map_text scenario_text : List ℕ) (row : ℕ) (swamp : Bool) (error : GridError)
    → (grid_reading map_text scenario_text row swamp ≡ Err error
    → IsCaseOf map_text scenario_text row error)
    × (IsCaseOf map_text scenario_text row error → grid_reading map_text scenario_text row swamp
    ≡ Err error)
