-- The laws of this crate. Each is proved, as the contract of the public function that has its name.
use Rattle.std.specs.Prelude.{◌≡◌, ℕ, suc, ◌+◌, ◌-◌, ◌<◌, ◌≤◌, true, IsTrue, Option, Some, length, slice_get}
use Rattle.pb_model.specs.Guide.{IsAdmissible}
use Rattle.pb_model.specs.declared.row.Estimate.TheVariants.{Cost}
use Rattle.pb_task.specs.declared.parts.TaskParts.{TaskParts}
use Rattle.pb_task.specs.declared.parts.TaskParts.TheVariants.{Tiles}
use Rattle.pb_task.specs.declared.parts.TilesParts.{TilesParts}
use Rattle.pb_task.specs.Parts.{space_of, IsTask}
use Rattle.pb_task.specs.Tiles.{cell_count, board_of, is_board_state, IsTiles}
use Rattle.pb_task.specs.declared.parts.StripsParts.{StripsParts}
use Rattle.pb_task.specs.Strips.{IsStrips}
use Rattle.pb_task.specs.Widths.{width_of}
use Rattle.pb_tables.specs.Tables.{TablesValue}
use Rattle.pb_table_lines.specs.Lines.{listings, listing_at, line_number}
use Rattle.pb_table_lines.specs.Numbered.{line_of_listing}
use Rattle.pb_estimate.specs.Choices.{Choice, Tables}
use Rattle.pb_estimate.specs.Hmax.{atom_cost, SatisfyHmax}
use Rattle.pb_estimate.specs.Estimates.{tile_ways, estimate_of, estimate_by, suits}
use Rattle.pb_estimate.specs.Spelling.{spelling_of, head_of}

-- No walk from a state of a task to a goal costs less than the state's estimate, by each choice that
-- suits the task (Hart, Nilsson, Raphael 1968).
abbrev pub EstimatesAreAdmissible : Type 0
EstimatesAreAdmissible =
    (parts : TaskParts) (choice : Choice) → IsTask parts → suits parts choice ≡ true
    → IsAdmissible (space_of parts) (estimate_by parts choice)

-- The estimate of a board is a sum over all tiles, from 1 to the last: the distance between the
-- tile's cells on the board and on the goal board.
abbrev pub EstimatesCountTiles : Type 0
EstimatesCountTiles =
    (tiles : TilesParts) → IsTiles tiles → (state : ℕ)
    → IsTrue (is_board_state (cell_count tiles) state)
    → estimate_of (Tiles tiles) state
    ≡ Cost (tile_ways tiles.cols tiles.goal (board_of (cell_count tiles) state)
    (cell_count tiles - 1))

-- The costs of the atoms of a STRIPS task after as many rounds as there are atoms satisfy the
-- equation of hmax. No other costs do, and later rounds don't change them.
abbrev pub HmaxIsFixed : Type 0
HmaxIsFixed =
    (strips : StripsParts) → IsStrips strips → (state : ℕ)
    → SatisfyHmax strips state (atom_cost strips state strips.atoms)
    × ((costs : ℕ → Option ℕ) → SatisfyHmax strips state costs → (atom : ℕ) → atom < strips.atoms
    → costs atom ≡ atom_cost strips state strips.atoms atom)
    × ((round atom : ℕ) → strips.atoms ≤ round → atom < strips.atoms
    → atom_cost strips state round atom ≡ atom_cost strips state strips.atoms atom)

-- A certificate that states tables has their lines from its fifth line on. So a line of a list has
-- the number 4 + line_number in it, if the lines are counted from 1.
abbrev pub StatedLinesHaveTheirNumbers : Type 0
StatedLinesHaveTheirNumbers =
    (parts : TaskParts) (tables : TablesValue) (list line : ℕ) → list < length (listings tables)
    → line < suc (length (listing_at (listings tables) list).listed)
    → slice_get (head_of (spelling_of parts (Tables tables)))
    (4 + line_number tables list line - 1)
    ≡ Some (line_of_listing (width_of parts) (listing_at (listings tables) list) line)
