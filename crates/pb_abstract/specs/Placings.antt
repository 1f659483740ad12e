-- Blocks of sliding tiles: the boards that have the blank in the same cell, or also the tile 1, or
-- also the tiles 1 and 2.
use Rattle.std.specs.Prelude.{◌≡◌, ◌≢◌, ℕ, ◌+◌, ◌-◌, ◌*◌, ◌<◌, List, Option, None, Some, position, unwrap_or, ◌==◌, nat_lt, nat_le, if◌then◌else◌}
use Rattle.pb_machine.specs.Tables.{one_if}
use Rattle.pb_task.specs.declared.parts.TilesParts.{TilesParts}
use Rattle.pb_task.specs.Tiles.{cell_count, neighbour}
use Rattle.pb_abstract.specs.declared.placing.Placing.{Placing}
use Rattle.pb_abstract.specs.declared.projection.Projection.{Projection}
use Rattle.pb_abstract.specs.declared.projection.Projection.TheVariants.{Squares, Blank, BlankAndOne, BlankAndTwo, Atoms}

-- A placing is of three cells of a board that has `count` cells.
pub record IsPlacing (count : ℕ) (placing : Placing) : Type 0 where
  pub blank : placing.blank < count
  pub first : placing.first < count
  pub second : placing.second < count
  pub one : placing.first ≢ placing.blank
  pub two : placing.second ≢ placing.blank
  pub three : placing.second ≢ placing.first

-- the cell of a board that a number is in
abbrev pub cell_with : (board : List ℕ) → (number : ℕ) → ℕ
cell_with board number = unwrap_or (position (λ other. other == number) board) 0

abbrev pub placing_of : (board : List ℕ) → Placing
placing_of board =
    record { blank = cell_with board 0; first = cell_with board 1; second = cell_with board 2 }

-- how many blocks there are for a board of `count` cells; 0 if the projection is of another kind
abbrev pub placing_count : (count : ℕ) → Projection → ℕ
placing_count count (Squares side columns) = 0
placing_count count Blank = count
placing_count count BlankAndOne = count * (count - 1)
placing_count count BlankAndTwo = count * (count - 1) * (count - 2)
placing_count count (Atoms atoms) = 0

-- the rank of a cell among the cells other than `taken`
abbrev pub rank_beside : (taken cell : ℕ) → ℕ
rank_beside taken cell = cell - one_if (nat_lt taken cell)

-- the rank of a cell among the cells other than two that are taken
abbrev pub rank_beside_two : (taken other cell : ℕ) → ℕ
rank_beside_two taken other cell = cell - (one_if (nat_lt taken cell) + one_if (nat_lt other cell))

-- the block of a placing on a board of `count` cells; 0 if the projection is of another kind
abbrev pub placing_number : (count : ℕ) → Projection → Placing → ℕ
placing_number count (Squares side columns) placing = 0
placing_number count Blank placing = placing.blank
placing_number count BlankAndOne placing =
    placing.blank * (count - 1) + rank_beside placing.blank placing.first
placing_number count BlankAndTwo placing =
    (placing.blank * (count - 1) + rank_beside placing.blank placing.first) * (count - 2)
    + rank_beside_two placing.blank placing.first placing.second
placing_number count (Atoms atoms) placing = 0

-- the cell of a tile after the blank moved: the blank's old cell if the two met
abbrev pub tile_after : (blank to tile : ℕ) → ℕ
tile_after blank to tile = if tile == to then blank else tile

-- the placing after the blank moved to a cell
abbrev pub placing_after : Placing → (to : ℕ) → Placing
placing_after placing to = record {
  blank = to;
  first = tile_after placing.blank to placing.first;
  second = tile_after placing.blank to placing.second;
}

-- the block of the placing after the blank moved to a cell, if there is such a cell
abbrev pub number_after : (count : ℕ) → Projection → Placing → (cell : Option ℕ) → Option ℕ
number_after count projection placing None = None
number_after count projection placing (Some cell) =
    Some (placing_number count projection (placing_after placing cell))

-- The blank moves from a placing of the one block to the cell beside it in a direction. The result
-- is a placing of the other block.
pub record IsTileEdge (tiles : TilesParts) (projection : Projection) (block other : ℕ) : Type 0
  where
    pub placing : Placing
    pub action : ℕ
    pub cell : ℕ
    pub is : IsPlacing (cell_count tiles) placing
    pub beside : neighbour tiles.rows tiles.cols placing.blank action ≡ Some cell
    pub from : placing_number (cell_count tiles) projection placing ≡ block
    pub to : placing_number (cell_count tiles) projection (placing_after placing cell) ≡ other

-- the finest of the three projections of a board of `count` cells that has at most so many blocks
abbrev pub finest_of : (count wish : ℕ) → Projection
finest_of count wish =
    if nat_le (count * (count - 1) * (count - 2)) wish then BlankAndTwo
    else (if nat_le (count * (count - 1)) wish then BlankAndOne else Blank)
