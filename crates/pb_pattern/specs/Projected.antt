-- Projected tasks. A grid has none. Of sliding tiles the cells of the blank and of the first tiles
-- are kept, and of STRIPS some atoms.
use Rattle.std.specs.Prelude.{ℕ, zero, suc, ◌+◌, ◌-◌, ◌*◌, ◌^◌, min, Bool, false, not, List, [], ◌∷◌, ◌++◌, length, map, take, Option, None, Some, slice_index, if◌then◌else◌, nat_lt, position, unwrap_or, ◌==◌, ◌&&◌}
use Rattle.std.specs.List.{list_all}
use Rattle.pb_model.specs.Space.{Space}
use Rattle.pb_task.specs.declared.parts.GroundAction.{GroundAction}
use Rattle.pb_task.specs.declared.grounding.Grounding.TheVariants as groundings
use Rattle.pb_task.specs.declared.parts.StripsParts.{StripsParts}
use Rattle.pb_task.specs.declared.parts.TilesParts.{TilesParts}
use Rattle.pb_task.specs.Tiles.{cell_count, board_state, board_of, neighbour}
use Rattle.pb_task.specs.Strips.{has_atom, set_of}

-- ---- tiles

-- how many tiles are tracked beside the blank
abbrev pub tracked_tiles : TilesParts → (pattern : ℕ) → ℕ
tracked_tiles tiles pattern = min pattern (min 3 (cell_count tiles - 1))

-- the cell of a board that a number is in
abbrev pub cell_with : (board : List ℕ) → (number : ℕ) → ℕ
cell_with board number = unwrap_or (position (λ other. other == number) board) 0

-- the cells of a number and of the ones after it, so many in all
abbrev pub cells_from : (board : List ℕ) → (number many : ℕ) → List ℕ
cells_from board number zero = []
cells_from board number (suc many) = cell_with board number ∷ cells_from board (number + 1) many

-- The cells of the blank and of the tracked tiles, as a number: the blank's cell in the bits 0 to
-- 3, and that of tile i in the bits 4i to 4i+3.
abbrev pub placing_of : (tracked : ℕ) → (board : List ℕ) → ℕ
placing_of tracked board = board_state (cells_from board 0 (suc tracked))

-- the cell of a piece after the blank moved from one cell to another: the piece that was there is
-- now where the blank was
abbrev pub cell_after : (blank other cell : ℕ) → ℕ
cell_after blank other cell =
    if cell == blank then other else (if cell == other then blank else cell)

abbrev pub placing_after : (cells : List ℕ) → (blank : ℕ) → (other : Option ℕ) → Option (ℕ × ℕ)
placing_after cells blank None = None
placing_after cells blank (Some other) = Some (board_state (map (cell_after blank other) cells), 1)

-- the blank is the first of the pieces
abbrev pub placing_step : (rows cols : ℕ) → (cells : List ℕ) → (action : ℕ) → Option (ℕ × ℕ)
placing_step rows cols cells action =
    placing_after cells (slice_index cells 0) (neighbour rows cols (slice_index cells 0) action)

-- so many pieces, each in a cell of the board
abbrev pub is_placing : (count many placing : ℕ) → Bool
is_placing count many placing =
    nat_lt placing (16 ^ many) && list_all (λ cell. nat_lt cell count) (board_of many placing)

-- the placings of so many pieces on a board
abbrev pub pieces_space : (rows cols pieces start goal : ℕ) → Space
pieces_space rows cols pieces start goal = record {
  start = start;
  is_state = is_placing (rows * cols) pieces;
  is_goal = λ placing. placing == goal;
  actions = 4;
  step =
      λ placing action. if is_placing (rows * cols) pieces placing
      then placing_step rows cols (board_of pieces placing) action else None;
}

-- the blank and the tracked tiles
abbrev pub placing_space : TilesParts → (tracked : ℕ) → Space
placing_space tiles tracked =
    pieces_space tiles.rows tiles.cols (suc tracked) (placing_of tracked tiles.start)
    (placing_of tracked tiles.goal)

abbrev pub image_of_board : TilesParts → (tracked state : ℕ) → ℕ
image_of_board tiles tracked state = placing_of tracked (board_of (cell_count tiles) state)

-- ---- STRIPS

-- those of the first `count` atoms that pass a test, in ascending order
abbrev pub atoms_by : (test : ℕ → Bool) → (count : ℕ) → List ℕ
atoms_by test zero = []
atoms_by test (suc atom) = atoms_by test atom ++ (if test atom then atom ∷ [] else [])

-- the atoms of the goal, and then the others
abbrev pub goal_first : StripsParts → List ℕ
goal_first strips =
    atoms_by (has_atom strips.goal) strips.atoms
    ++ atoms_by (λ atom. not (has_atom strips.goal atom)) strips.atoms

-- the atoms that are tracked
abbrev pub tracked_atoms : StripsParts → (pattern : ℕ) → List ℕ
tracked_atoms strips pattern = take pattern (goal_first strips)

-- a set of atoms as a set of places in the list of the tracked ones
abbrev pub image_of_set : (tracked : List ℕ) → (set : ℕ) → ℕ
image_of_set tracked set = set_of (length tracked) (λ place. has_atom set (slice_index tracked place))

abbrev pub projected_action : (tracked : List ℕ) → GroundAction → GroundAction
projected_action tracked action = record {
  name = [];
  needs = image_of_set tracked action.needs;
  adds = image_of_set tracked action.adds;
  deletes = image_of_set tracked action.deletes;
  cost = action.cost;
}

-- the task over the tracked atoms alone
abbrev pub projected_strips : StripsParts → (tracked : List ℕ) → StripsParts
projected_strips strips tracked = record {
  atoms = length tracked;
  actions = map (projected_action tracked) strips.actions;
  start = image_of_set tracked strips.start;
  goal = image_of_set tracked strips.goal;
  never = false;
  grounding = groundings.All;
}
