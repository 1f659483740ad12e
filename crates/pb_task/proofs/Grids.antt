-- A grid's steps lead from states to states, by four actions, at cost 1 or 2, and what that gives for tasks of every kind.
use Rattle.std.proofs.Common.{◌≡◌, ℕ, zero, suc, ◌+◌, ◌*◌, ◌^◌, ◌<◌, ◌≤◌, Bool, true, false, IsTrue, Option, None, Some, unwrap_or, nat_lt, ◌&&◌, if◌then◌else◌, slice_get, refl, sym, subst, ap, arith, ◌∙◌}
use Rattle.std.proofs.lemmas.Bool.{ltb-true, lt-ltb}
use Rattle.pb_packed.specs.Bits.{bits_of}
use Rattle.pb_model.specs.Space.{Space, Steps, IsProper}
use Rattle.pb_task.specs.Grid.{is_passable, are_connected, class_at, is_swamp, entry_cost, cell_state, class_of_state, cell_beside, step_to, grid_space, IsGrid}
use Rattle.pb_task.specs.Laws.{GridsAreProper, TasksAreProper}
use Rattle.pb_task.specs.declared.parts.TaskParts.TheVariants.{Grid, Tiles, Strips}
use Rattle.pb_task.specs.Parts.{greatest_cost}
use Rattle.pb_task.specs.Tiles.{tiles_space}
use Rattle.pb_task.proofs.Acting.{strips_are_proper}
use Rattle.pb_task.proofs.Sliding.{tiles_is_proper, boards_are_small}
use Rattle.pb_task.specs.declared.parts.GridParts.{GridParts}
use Rattle.pb_task.specs.declared.parts.Class.{Class}
use Rattle.pb_task.specs.declared.parts.Class.TheVariants.{Land, Water, Blocked}

pub passable_from : (from to : Class) → are_connected from to ≡ true → is_passable from ≡ true
passable_from Land to e = refl
passable_from Water to e = refl
passable_from Blocked to e = e

pub passable_to : (from to : Class) → are_connected from to ≡ true → is_passable to ≡ true
passable_to from Land e = refl
passable_to from Water e = refl
passable_to Land Blocked e = e
passable_to Water Blocked e = e
passable_to Blocked Blocked e = e

-- a cell that can be entered is on the map
both : (column row : Bool) (class : Class) → is_passable (if column && row then class else Blocked) ≡ true → (column ≡ true) × (row ≡ true)
both true true class e = (refl, refl)
both true false class e = (refl, e)
both false row class e = (e, cc)

pub on_map : (grid : GridParts) (x y : ℕ) → is_passable (class_at grid x y) ≡ true → (x < grid.width) × (y < grid.height)
on_map grid x y e =
    let tests : (nat_lt x grid.width ≡ true) × (nat_lt y grid.height ≡ true) = both (nat_lt x grid.width) (nat_lt y grid.height) (unwrap_or (slice_get grid.cells (y * grid.width + x)) Blocked) e in
    (ltb-true x grid.width tests.0, ltb-true y grid.height tests.1)

-- the state of a cell stands for that cell
pub x_of : (x y : ℕ) → x < 2048 → bits_of (cell_state x y) 0 11 ≡ x
x_of x y h = omega arith

pub y_of : (x y : ℕ) → x < 2048 → y < 2048 → bits_of (cell_state x y) 11 11 ≡ y
y_of x y h k = omega arith

small : (x y : ℕ) → x < 2048 → y < 2048 → nat_lt (cell_state x y) (2 ^ 22) ≡ true
small x y h k = lt-ltb (cell_state x y) (2 ^ 22) (omega arith)

pub class_of_cell : (grid : GridParts) (x y : ℕ) → x < 2048 → y < 2048 → class_of_state grid (cell_state x y) ≡ class_at grid x y
class_of_cell grid x y h k =
    ap (λ test. if test then class_at grid (bits_of (cell_state x y) 0 11) (bits_of (cell_state x y) 11 11) else Blocked) (small x y h k)
    ∙ ap (λ n. class_at grid n (bits_of (cell_state x y) 11 11)) (x_of x y h) ∙ ap (λ n. class_at grid x n) (y_of x y h k)

-- a cell that can be entered is a state
pub cell_is_state : (grid : GridParts) (x y : ℕ) → grid.width ≤ 2048 → grid.height ≤ 2048 → is_passable (class_at grid x y) ≡ true
    → is_passable (class_of_state grid (cell_state x y)) ≡ true
cell_is_state grid x y w h e =
    let within : (x < grid.width) × (y < grid.height) = on_map grid x y e in
    subst (λ c. is_passable c ≡ true) (sym (class_of_cell grid x y (omega (arith, within.0)) (omega (arith, within.1)))) e

record IsStep (grid : GridParts) (from : Class) (to cost : ℕ) : Type 0 where
  pub from_passable : is_passable from ≡ true
  pub to_state : is_passable (class_of_state grid to) ≡ true
  pub low : (1 ≤ cost) × (cost ≤ 2)

low_entry : (swamp : Bool) → (1 ≤ (if swamp then 2 else 1)) × ((if swamp then 2 else 1) ≤ 2)
low_entry true = (omega arith, omega arith)
low_entry false = (omega arith, omega arith)

at_cell : (grid : GridParts) (from : Class) (x y to cost : ℕ) (test : Bool) → grid.width ≤ 2048 → grid.height ≤ 2048 → are_connected from (class_at grid x y) ≡ test
    → ◌≡◌ {A = Option (ℕ × ℕ)} (if test then Some (cell_state x y, entry_cost grid x y) else None) (Some (to, cost)) → IsStep grid from to cost
at_cell grid from x y to cost false w h is e = cc
at_cell grid from x y to cost true w h is e =
    let same : ◌≡◌ {A = ℕ × ℕ} (cell_state x y, entry_cost grid x y) (to, cost) = cc in
    let there : cell_state x y ≡ to = ap (λ (p : ℕ × ℕ). p.0) same in
    record {
      from_passable = passable_from from (class_at grid x y) is;
      to_state = subst (λ t. is_passable (class_of_state grid t) ≡ true) there (cell_is_state grid x y w h (passable_to from (class_at grid x y) is));
      low = subst (λ n. (1 ≤ n) × (n ≤ 2)) (ap (λ (p : ℕ × ℕ). p.1) same) (low_entry (is_swamp grid x y));
    }

to_beside : (grid : GridParts) (from : Class) (beside : Option (ℕ × ℕ)) (to cost : ℕ) → grid.width ≤ 2048 → grid.height ≤ 2048
    → step_to grid from beside ≡ Some (to, cost) → IsStep grid from to cost
to_beside grid from None to cost w h e = cc
to_beside grid from (Some cell) to cost w h e = at_cell grid from cell.0 cell.1 to cost (are_connected from (class_at grid cell.0 cell.1)) w h refl e

step_is : (grid : GridParts) → IsGrid grid → (from action to cost : ℕ) → Steps (grid_space grid) from action to cost → IsStep grid (class_of_state grid from) to cost
step_is grid is from action to cost step =
    to_beside grid (class_of_state grid from) (cell_beside (bits_of from 0 11) (bits_of from 11 11) action) to cost is.width.1 is.height.1 step

by_four : (grid : GridParts) (from action to cost : ℕ) → Steps (grid_space grid) from action to cost → action < 4
by_four grid from zero to cost step = omega arith
by_four grid from (suc zero) to cost step = omega arith
by_four grid from (suc (suc zero)) to cost step = omega arith
by_four grid from (suc (suc (suc zero))) to cost step = omega arith
by_four grid from (suc (suc (suc (suc more)))) to cost step = cc

grid_is_proper : (grid : GridParts) → IsGrid grid → IsProper (grid_space grid) 2
grid_is_proper grid is = record {
  start = cell_is_state grid grid.start.0 grid.start.1 is.width.1 is.height.1 is.start;
  action = by_four grid;
  from_state = λ from action to cost step. (step_is grid is from action to cost step).from_passable;
  to_state = λ from action to cost step. (step_is grid is from action to cost step).to_state;
  positive = λ from action to cost step. (step_is grid is from action to cost step).low.0;
  bounded = λ from action to cost step. (step_is grid is from action to cost step).low.1;
}

has_few_bits : (test : Bool) (class : Class) → is_passable (if test then class else Blocked) ≡ true → test ≡ true
has_few_bits true class e = refl
has_few_bits false class e = e

pub states_are_small : (grid : GridParts) (state : ℕ) → IsTrue ((grid_space grid).is_state state) → state < 2 ^ 22
states_are_small grid state e = ltb-true state (2 ^ 22) (has_few_bits (nat_lt state (2 ^ 22)) (class_at grid (bits_of state 0 11) (bits_of state 11 11)) e)

pub grids_are_proper : GridsAreProper
grids_are_proper grid is = (grid_is_proper grid is, refl, states_are_small grid)

-- ---- tasks of every kind

costs_within : (space : Space) (least most : ℕ) → least ≤ most → IsProper space least → IsProper space most
costs_within space least most more proper = record {
  start = proper.start;
  action = proper.action;
  from_state = proper.from_state;
  to_state = proper.to_state;
  positive = proper.positive;
  bounded = λ from action to cost step. let here : cost ≤ least = proper.bounded from action to cost step in omega arith;
}

pub tasks_are_proper : TasksAreProper
tasks_are_proper (Grid grid) is =
    (costs_within (grid_space grid) 2 greatest_cost (omega arith) (grid_is_proper grid is), λ state e. let few : state < 2 ^ 22 = states_are_small grid state e in omega arith)
tasks_are_proper (Tiles tiles) is =
    (costs_within (tiles_space tiles) 1 greatest_cost (omega arith) (tiles_is_proper tiles is), λ state e. let few : state < 2 ^ 64 = boards_are_small tiles is state e in omega arith)
tasks_are_proper (Strips strips) is = strips_are_proper strips is
