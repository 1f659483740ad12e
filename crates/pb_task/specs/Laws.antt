-- The laws of this crate. Each is proved, as the contract of the public function that has its name.
use Rattle.std.specs.Prelude.{◌≡◌, ℕ, ◌^◌, ◌<◌, ◌≤◌, Bool, IsTrue, List, length, slice_index, ◌*◌, ◌↔◌}
use Rattle.pb_packed.specs.Bits.{bits_of}
use Rattle.pb_packed.specs.Sizes.{most_atoms}
use Rattle.pb_model.specs.Space.{Space, Steps, IsProper, steps}
use Rattle.pb_model.specs.Plan.{IsPlan}
use Rattle.pb_task.specs.declared.parts.TaskParts.{TaskParts}
use Rattle.pb_task.specs.declared.parts.GridParts.{GridParts}
use Rattle.pb_task.specs.declared.parts.TilesParts.{TilesParts}
use Rattle.pb_task.specs.declared.plan.PlanFault.{PlanFault}
use Rattle.pb_task.specs.Faults.{IsFault}
use Rattle.pb_task.specs.Grid.{grid_space, IsGrid}
use Rattle.pb_task.specs.Tiles.{cell_count, is_board, board_state, board_of, is_board_state, tiles_space, IsTiles}
use Rattle.pb_task.specs.Slides.{Slides}
use Rattle.pb_task.specs.Strips.{has_atom, set_of, strips_space, IsStrips, Acts}
use Rattle.pb_task.specs.declared.parts.StripsParts.{StripsParts}
use Rattle.pb_task.specs.Parts.{space_of, IsTask, max_degree_of, greatest_cost}

-- A grid's start is a state. Each of its steps is by one of four actions, leads from a state to a
-- state, and costs 1 or 2. Its states are numbers below 2^22.
abbrev pub GridsAreProper : Type 0
GridsAreProper =
    (grid : GridParts) → IsGrid grid
    → IsProper (grid_space grid) 2 × ((grid_space grid).actions ≡ 4)
    × ((state : ℕ) → IsTrue ((grid_space grid).is_state state) → state < 2 ^ 22)

-- The start of sliding tiles is a state. Each step is by one of four actions, leads from a board to
-- a board, and costs 1. The states are numbers below 2^64.
abbrev pub TilesAreProper : Type 0
TilesAreProper =
    (tiles : TilesParts) → IsTiles tiles
    → IsProper (tiles_space tiles) 1 × ((tiles_space tiles).actions ≡ 4)
    × ((state : ℕ) → IsTrue ((tiles_space tiles).is_state state) → state < 2 ^ 64)

-- A step of sliding tiles exchanges the blank of a board and the tile beside it in the action's
-- direction, and costs 1.
abbrev pub TilesSlide : Type 0
TilesSlide =
    (tiles : TilesParts) → IsTiles tiles → (before : List ℕ)
    → IsTrue (is_board (cell_count tiles) before) → (action to cost : ℕ)
    → Steps (tiles_space tiles) (board_state before) action to cost
    ↔ ((after : List ℕ) × IsTrue (is_board (cell_count tiles) after)
    × Slides tiles action before after × (to ≡ board_state after) × (cost ≡ 1))

-- Boards and their states are one to one. The state of a board has the board's numbers in its
-- cells. A state that is a board is the state of the numbers in its cells. The number in cell i is
-- the one in the bits 4i to 4i+3.
abbrev pub BoardsArePacked : Type 0
BoardsArePacked =
    (count : ℕ) → count ≤ 16
    → ((board : List ℕ) → IsTrue (is_board count board)
    → IsTrue (is_board_state count (board_state board))
    × (board_of count (board_state board) ≡ board))
    × ((state : ℕ) → IsTrue (is_board_state count state)
    → IsTrue (is_board count (board_of count state))
    × (board_state (board_of count state) ≡ state))
    × ((state cell : ℕ) → cell < count → slice_index (board_of count state) cell
    ≡ bits_of state (4 * cell) 4)

-- The start of a STRIPS task is a state. Each of its steps is by one of its actions, leads from a
-- state to a state, and costs 1 to 2^20. Its states have as many bits
-- as a task may have atoms.
abbrev pub StripsAreProper : Type 0
StripsAreProper =
    (strips : StripsParts) → IsStrips strips
    → IsProper (strips_space strips) greatest_cost
    × ((state : ℕ) → IsTrue ((strips_space strips).is_state state) → state < 2 ^ most_atoms)

-- A step of a STRIPS task is one by which an action acts, atom by atom.
abbrev pub StripsAct : Type 0
StripsAct =
    (strips : StripsParts) (from action to cost : ℕ)
    → Steps (strips_space strips) from action to cost ↔ Acts strips from action to cost

-- A set that is made by a test has those of the first `count` atoms that the test accepts, and no
-- others. Two sets of these atoms are equal if they have the same atoms.
abbrev pub SetsAreOfAtoms : Type 0
SetsAreOfAtoms =
    ((count : ℕ) (accepts : ℕ → Bool) → (set_of count accepts < 2 ^ count)
    × ((atom : ℕ) → atom < count → has_atom (set_of count accepts) atom ≡ accepts atom))
    × ((count one other : ℕ) → one < 2 ^ count → other < 2 ^ count
    → ((atom : ℕ) → atom < count → has_atom one atom ≡ has_atom other atom) → one ≡ other)

-- The state space of a task is proper: no action costs more than the greatest cost. Its states have
-- as many bits as a task may have atoms.
abbrev pub TasksAreProper : Type 0
TasksAreProper =
    (parts : TaskParts) → IsTask parts
    → IsProper (space_of parts) greatest_cost
    × ((state : ℕ) → IsTrue ((space_of parts).is_state state) → state < 2 ^ most_atoms)

-- No state of a task has more successors than its greatest degree.
abbrev pub DegreesAreBounded : Type 0
DegreesAreBounded =
    (parts : TaskParts) (state : ℕ) → length (steps (space_of parts) state) ≤ max_degree_of parts

-- A list of actions has one fault at most.
abbrev pub FaultsAreUnique : Type 0
FaultsAreUnique =
    (space : Space) (actions : List ℕ) (fault other : PlanFault) → IsFault space actions fault
    → IsFault space actions other → fault ≡ other

-- A list of actions that has a fault is no plan.
abbrev pub FaultsKeepFromPlans : Type 0
FaultsKeepFromPlans =
    (space : Space) (actions : List ℕ) (fault : PlanFault) (cost : ℕ) → IsFault space actions fault
    → IsPlan space (record { actions = actions; cost = cost }) → ⊥
