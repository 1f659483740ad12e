-- The projection of a task's states to blocks, and the edges between blocks. A further kind of task
-- is one case more of each definition.
use Rattle.std.specs.Prelude.{◌≡◌, ℕ, ◌^◌, ◌≤◌, length}
use Rattle.pb_packed.specs.Bits.{bits_of}
use Rattle.pb_task.specs.declared.parts.TaskParts.{TaskParts}
use Rattle.pb_task.specs.declared.parts.TaskParts.TheVariants.{Grid, Tiles, Strips}
use Rattle.pb_task.specs.Tiles.{cell_count, board_of}
use Rattle.pb_abstract.specs.declared.projection.Projection.{Projection}
use Rattle.pb_abstract.specs.declared.projection.Projection.TheVariants.{Squares, Blank, BlankAndOne, BlankAndTwo, Atoms}
use Rattle.pb_abstract.specs.Squares.{column_count, square_count, square_of, IsSquareEdge, IsLeastSide}
use Rattle.pb_abstract.specs.Tracked.{AreTracked, AreAtoms, tracked_set, IsTrackedEdge}
use Rattle.pb_abstract.specs.Placings.{placing_count, placing_number, placing_of, IsTileEdge, finest_of}

-- the projection is one of states of this kind
abbrev pub Fits : TaskParts → Projection → Type 0
Fits (Grid grid) (Squares side columns) = (1 ≤ side) × (columns ≡ column_count grid side)
Fits (Grid grid) Blank = ⊥
Fits (Grid grid) BlankAndOne = ⊥
Fits (Grid grid) BlankAndTwo = ⊥
Fits (Grid grid) (Atoms atoms) = ⊥
Fits (Tiles tiles) (Squares side columns) = ⊥
Fits (Tiles tiles) Blank = Unit {0}
Fits (Tiles tiles) BlankAndOne = Unit {0}
Fits (Tiles tiles) BlankAndTwo = Unit {0}
Fits (Tiles tiles) (Atoms atoms) = ⊥
Fits (Strips strips) (Squares side columns) = ⊥
Fits (Strips strips) Blank = ⊥
Fits (Strips strips) BlankAndOne = ⊥
Fits (Strips strips) BlankAndTwo = ⊥
Fits (Strips strips) (Atoms atoms) = AreAtoms strips atoms

-- how many blocks there are; 0 if the projection is of another kind
abbrev pub block_count : TaskParts → Projection → ℕ
block_count (Grid grid) (Squares side columns) = square_count grid side
block_count (Grid grid) Blank = 0
block_count (Grid grid) BlankAndOne = 0
block_count (Grid grid) BlankAndTwo = 0
block_count (Grid grid) (Atoms atoms) = 0
block_count (Tiles tiles) projection = placing_count (cell_count tiles) projection
block_count (Strips strips) (Squares side columns) = 0
block_count (Strips strips) Blank = 0
block_count (Strips strips) BlankAndOne = 0
block_count (Strips strips) BlankAndTwo = 0
block_count (Strips strips) (Atoms atoms) = 2 ^ length atoms

-- the block of a state; 0 if the projection is of another kind
abbrev pub block_of : TaskParts → Projection → (state : ℕ) → ℕ
block_of (Grid grid) (Squares side columns) state =
    square_of grid side (bits_of state 0 11) (bits_of state 11 11)
block_of (Grid grid) Blank state = 0
block_of (Grid grid) BlankAndOne state = 0
block_of (Grid grid) BlankAndTwo state = 0
block_of (Grid grid) (Atoms atoms) state = 0
block_of (Tiles tiles) projection state =
    placing_number (cell_count tiles) projection (placing_of (board_of (cell_count tiles) state))
block_of (Strips strips) (Squares side columns) state = 0
block_of (Strips strips) Blank state = 0
block_of (Strips strips) BlankAndOne state = 0
block_of (Strips strips) BlankAndTwo state = 0
block_of (Strips strips) (Atoms atoms) state = tracked_set atoms state

-- an edge leads from the one block to the other
abbrev pub IsEdge : TaskParts → Projection → (block other : ℕ) → Type 0
IsEdge (Grid grid) (Squares side columns) block other = IsSquareEdge grid side block other
IsEdge (Grid grid) Blank block other = ⊥
IsEdge (Grid grid) BlankAndOne block other = ⊥
IsEdge (Grid grid) BlankAndTwo block other = ⊥
IsEdge (Grid grid) (Atoms atoms) block other = ⊥
IsEdge (Tiles tiles) projection block other = IsTileEdge tiles projection block other
IsEdge (Strips strips) (Squares side columns) block other = ⊥
IsEdge (Strips strips) Blank block other = ⊥
IsEdge (Strips strips) BlankAndOne block other = ⊥
IsEdge (Strips strips) BlankAndTwo block other = ⊥
IsEdge (Strips strips) (Atoms atoms) block other = IsTrackedEdge strips atoms block other

-- It is the finest projection that has at most `wish` blocks: the least side of squares, the most
-- tiles that are followed, or the most atoms that are tracked.
abbrev pub IsFinest : TaskParts → (wish : ℕ) → Projection → Type 0
IsFinest (Grid grid) wish (Squares side columns) =
    IsLeastSide grid wish side × (columns ≡ column_count grid side)
IsFinest (Grid grid) wish Blank = ⊥
IsFinest (Grid grid) wish BlankAndOne = ⊥
IsFinest (Grid grid) wish BlankAndTwo = ⊥
IsFinest (Grid grid) wish (Atoms atoms) = ⊥
IsFinest (Tiles tiles) wish projection = projection ≡ finest_of (cell_count tiles) wish
IsFinest (Strips strips) wish (Squares side columns) = ⊥
IsFinest (Strips strips) wish Blank = ⊥
IsFinest (Strips strips) wish BlankAndOne = ⊥
IsFinest (Strips strips) wish BlankAndTwo = ⊥
IsFinest (Strips strips) wish (Atoms atoms) = AreTracked strips wish atoms
