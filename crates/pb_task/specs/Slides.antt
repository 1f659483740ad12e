-- What a step of sliding tiles is, said of the board before and the board after it.
use Rattle.std.specs.Prelude.{◌≡◌, ◌≢◌, ℕ, zero, suc, ◌+◌, ◌/◌, ◌%◌, ◌<◌, List, slice_index}
use Rattle.pb_task.specs.declared.parts.TilesParts.{TilesParts}
use Rattle.pb_task.specs.Tiles.{cell_count}

-- The second cell lies beside the first in an action's direction: above, below, left or right. A
-- cell's row is its number divided by the number of columns, and its column is the rest.
abbrev pub LiesBeside : (cols from to action : ℕ) → Type 0
LiesBeside cols from to zero = (from % cols ≡ to % cols) × (from / cols ≡ to / cols + 1)
LiesBeside cols from to (suc zero) = (from % cols ≡ to % cols) × (to / cols ≡ from / cols + 1)
LiesBeside cols from to (suc (suc zero)) = (from / cols ≡ to / cols) × (from % cols ≡ to % cols + 1)
LiesBeside cols from to (suc (suc (suc zero))) =
    (from / cols ≡ to / cols) × (to % cols ≡ from % cols + 1)
LiesBeside cols from to (suc (suc (suc (suc more)))) = ⊥

-- The blank and the tile beside it in the action's direction have changed places, and all other
-- tiles are in their old places.
pub record Slides (tiles : TilesParts) (action : ℕ) (before after : List ℕ) : Type 0 where
  pub blank : ℕ
  pub tile : ℕ
  pub on_board : (blank < cell_count tiles) × (tile < cell_count tiles)
  pub beside : LiesBeside tiles.cols blank tile action
  pub blank_was : slice_index before blank ≡ 0
  pub blank_is : slice_index after tile ≡ 0
  pub tile_is : slice_index after blank ≡ slice_index before tile
  pub others_stay : (cell : ℕ) → cell ≢ blank → cell ≢ tile
      → slice_index after cell ≡ slice_index before cell
