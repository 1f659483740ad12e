-- The edges of squares are those that steps on the grid make.
use Rattle.std.proofs.Common.{◌≡◌, ℕ, ◌*◌, ◌/◌, ◌^◌, ◌<◌, ◌≤◌, Bool, true, false, Option, None, Some, nat_lt, if◌then◌else◌, refl, sym, ap, subst, ◌∙◌, arith}
use Rattle.std.specs.Int.{div_ceil}
use Rattle.std.proofs.Math.Nat.{mul_comm}
use Rattle.pb_packed.specs.Bits.{bits_of}
use Rattle.pb_model.specs.Space.{Steps}
use Rattle.pb_task.specs.Grid.{class_at, entry_cost, class_of_state, cell_state, are_connected, is_passable, cell_beside, step_to, grid_space, IsGrid}
use Rattle.pb_task.specs.declared.parts.Class.{Class}
use Rattle.pb_task.specs.declared.parts.Class.TheVariants.{Blocked}
use Rattle.pb_task.specs.declared.parts.GridParts.{GridParts}
use Rattle.pb_task.proofs.Callers.{passable_from, passable_to, on_map, x_of, y_of, class_of_cell}
use Rattle.pb_abstract.specs.Squares.{square_count, square_of, IsSquareEdge}
use Rattle.pb_abstract.proofs.Squaring.{fits_parts}
use Rattle.pb_abstract.proofs.Ranks.{digits_below}

-- the square of a state
abbrev pub square_at : GridParts → (side state : ℕ) → ℕ
square_at grid side state = square_of grid side (bits_of state 0 11) (bits_of state 11 11)

square_of_cell : (grid : GridParts) (side x y : ℕ) → x < 2048 → y < 2048 → square_at grid side (cell_state x y) ≡ square_of grid side x y
square_of_cell grid side x y h k = ap (λ n. square_of grid side n (bits_of (cell_state x y) 11 11)) (x_of x y h) ∙ ap (λ n. square_of grid side x n) (y_of x y h k)

abbrev pub SquareStep : GridParts → (side block other : ℕ) → Type 0
SquareStep grid side block other =
    (from : ℕ) × (action : ℕ) × (to : ℕ) × (cost : ℕ) × Steps (grid_space grid) from action to cost × (square_at grid side from ≡ block) × (square_at grid side to ≡ other)

-- an edge is the step from its cell
pub edge_step : (grid : GridParts) → IsGrid grid → (side block other : ℕ) → IsSquareEdge grid side block other → SquareStep grid side block other
edge_step grid is side block other edge =
    let here : (edge.x < grid.width) × (edge.y < grid.height) = on_map grid edge.x edge.y (passable_from (class_at grid edge.x edge.y) (class_at grid edge.cell.0 edge.cell.1) edge.connected) in
    let there : (edge.cell.0 < grid.width) × (edge.cell.1 < grid.height) =
    on_map grid edge.cell.0 edge.cell.1 (passable_to (class_at grid edge.x edge.y) (class_at grid edge.cell.0 edge.cell.1) edge.connected) in
    let wide : grid.width ≤ 2048 = is.width.1 in
    let high : grid.height ≤ 2048 = is.height.1 in
    let x : edge.x < 2048 = omega (arith, here.0, wide) in
    let y : edge.y < 2048 = omega (arith, here.1, high) in
    let state = cell_state edge.x edge.y in
    let class : class_of_state grid state ≡ class_at grid edge.x edge.y = class_of_cell grid edge.x edge.y x y in
    let step : Steps (grid_space grid) state edge.action (cell_state edge.cell.0 edge.cell.1) (entry_cost grid edge.cell.0 edge.cell.1) =
    ap (λ c. step_to grid c (cell_beside (bits_of state 0 11) (bits_of state 11 11) edge.action)) class
    ∙ ap (λ n. step_to grid (class_at grid edge.x edge.y) (cell_beside n (bits_of state 11 11) edge.action)) (x_of edge.x edge.y x)
    ∙ ap (λ n. step_to grid (class_at grid edge.x edge.y) (cell_beside edge.x n edge.action)) (y_of edge.x edge.y x y)
    ∙ ap (step_to grid (class_at grid edge.x edge.y)) edge.beside
    ∙ ap (λ test. if test then Some (cell_state edge.cell.0 edge.cell.1, entry_cost grid edge.cell.0 edge.cell.1) else None) edge.connected in (
      state,
      edge.action,
      cell_state edge.cell.0 edge.cell.1,
      entry_cost grid edge.cell.0 edge.cell.1,
      step,
      square_of_cell grid side edge.x edge.y x y ∙ edge.from,
      square_of_cell grid side edge.cell.0 edge.cell.1 (omega (arith, there.0, wide)) (omega (arith, there.1, high)) ∙ edge.to,
    )

-- a state that can be left stands for a cell
class_is : (grid : GridParts) (state : ℕ) → is_passable (class_of_state grid state) ≡ true → class_of_state grid state ≡ class_at grid (bits_of state 0 11) (bits_of state 11 11)
class_is grid state e = go (nat_lt state (2 ^ 22)) e where
  go : (test : Bool) → is_passable (if test then class_at grid (bits_of state 0 11) (bits_of state 11 11) else Blocked) ≡ true
      → ◌≡◌ {A = Class} (if test then class_at grid (bits_of state 0 11) (bits_of state 11 11) else Blocked) (class_at grid (bits_of state 0 11) (bits_of state 11 11))
  go true e = refl
  go false e = cc

-- a step is an edge
pub step_edge : (grid : GridParts) → IsGrid grid → (side from action to cost : ℕ) → Steps (grid_space grid) from action to cost
    → IsSquareEdge grid side (square_at grid side from) (square_at grid side to)
step_edge grid is side from action to cost e = go (cell_beside (bits_of from 0 11) (bits_of from 11 11) action) refl e where
  at : (cell : ℕ × ℕ) → cell_beside (bits_of from 0 11) (bits_of from 11 11) action ≡ Some cell → (test : Bool) → are_connected (class_of_state grid from) (class_at grid cell.0 cell.1) ≡ test
      → ◌≡◌ {A = Option (ℕ × ℕ)} (if test then Some (cell_state cell.0 cell.1, entry_cost grid cell.0 cell.1) else None) (Some (to, cost)) → IsSquareEdge grid side (square_at grid side from) (square_at grid side to)
  at cell beside false joined e = cc
  at cell beside true joined e =
      let same : ◌≡◌ {A = ℕ × ℕ} (cell_state cell.0 cell.1, entry_cost grid cell.0 cell.1) (to, cost) = cc in
      let there : (cell.0 < grid.width) × (cell.1 < grid.height) = on_map grid cell.0 cell.1 (passable_to (class_of_state grid from) (class_at grid cell.0 cell.1) joined) in
      let wide : grid.width ≤ 2048 = is.width.1 in
      let high : grid.height ≤ 2048 = is.height.1 in
      let class : class_of_state grid from ≡ class_at grid (bits_of from 0 11) (bits_of from 11 11) = class_is grid from (passable_from (class_of_state grid from) (class_at grid cell.0 cell.1) joined) in
      record {
        x = bits_of from 0 11;
        y = bits_of from 11 11;
        action = action;
        cell = cell;
        beside = beside;
        connected = ap (λ c. are_connected c (class_at grid cell.0 cell.1)) (sym class) ∙ joined;
        from = refl;
        to = sym (square_of_cell grid side cell.0 cell.1 (omega (arith, there.0, wide)) (omega (arith, there.1, high))) ∙ ap (λ (p : ℕ × ℕ). square_at grid side p.0) same;
      }

  go : (beside : Option (ℕ × ℕ)) → cell_beside (bits_of from 0 11) (bits_of from 11 11) action ≡ beside → step_to grid (class_of_state grid from) beside ≡ Some (to, cost)
      → IsSquareEdge grid side (square_at grid side from) (square_at grid side to)
  go None beside e = cc
  go (Some cell) beside e = at cell beside (are_connected (class_of_state grid from) (class_at grid cell.0 cell.1)) refl e

-- the square of a state is one that there is
pub square_small : (grid : GridParts) (side state : ℕ) → 0 < side → is_passable (class_of_state grid state) ≡ true → square_at grid side state < square_count grid side
square_small grid side state some e =
    let here : (bits_of state 0 11 < grid.width) × (bits_of state 11 11 < grid.height) =
    on_map grid (bits_of state 0 11) (bits_of state 11 11) (subst (λ c. is_passable c ≡ true) (class_is grid state e) e) in
    swap (div_ceil grid.width side) (div_ceil grid.height side) (digits_below (div_ceil grid.width side) (div_ceil grid.height side) (bits_of state 11 11 / side) (bits_of state 0 11 / side)
    (fits_parts grid.height side (bits_of state 11 11) some here.1) (fits_parts grid.width side (bits_of state 0 11) some here.0))
  where
    swap : (columns rows : ℕ) → square_at grid side state < rows * columns → square_at grid side state < columns * rows
    swap columns rows less = subst (λ n. square_at grid side state < n) (mul_comm rows columns) less
