-- On a grid no step brings a cell nearer to the goal by more than its cost, so the Manhattan distance is admissible.
use Rattle.std.proofs.Common.{◌≡◌, ℕ, zero, suc, ◌+◌, ◌-◌, ◌<◌, ◌≤◌, Bool, true, false, IsTrue, Option, None, Some, List, nat_lt, if◌then◌else◌, refl, sym, subst, ap, arith, ◌∙◌}
use Rattle.std.proofs.lemmas.Bool.{eqb-true}
use Rattle.pb_packed.specs.Bits.{bits_of}
use Rattle.pb_model.specs.Space.{Steps}
use Rattle.pb_model.specs.Plan.{Walk}
use Rattle.pb_task.specs.Grid.{is_passable, are_connected, class_at, is_swamp, entry_cost, cell_state, class_of_state, cell_beside, step_to, grid_space, IsGrid}
use Rattle.pb_task.specs.declared.parts.GridParts.{GridParts}
use Rattle.pb_task.specs.declared.parts.Class.{Class}
use Rattle.pb_task.proofs.Callers.{passable_to, on_map, x_of, y_of}
use Rattle.pb_estimate.specs.Estimates.{apart, manhattan, cell_of}
use Rattle.pb_estimate.proofs.Consistent.{no_walk_is_cheaper}

-- ---- distances

near : (n m goal : ℕ) → n ≤ m + 1 → m ≤ n + 1 → apart n goal ≤ 1 + apart m goal
near n m goal h k = omega arith

pub near_in_x : (x x' y : ℕ) (goal : ℕ × ℕ) → x ≤ x' + 1 → x' ≤ x + 1 → manhattan (x, y) goal ≤ 1 + manhattan (x', y) goal
near_in_x x x' y goal h k = sums (apart x goal.0) (apart x' goal.0) (apart y goal.1) (near x x' goal.0 h k)
  where
    sums : (a b c : ℕ) → a ≤ 1 + b → a + c ≤ 1 + (b + c)
    sums a b c le = omega arith

pub near_in_y : (x y y' : ℕ) (goal : ℕ × ℕ) → y ≤ y' + 1 → y' ≤ y + 1 → manhattan (x, y) goal ≤ 1 + manhattan (x, y') goal
near_in_y x y y' goal h k = sums (apart x goal.0) (apart y goal.1) (apart y' goal.1) (near y y' goal.1 h k)
  where
    sums : (c a b : ℕ) → a ≤ 1 + b → c + a ≤ 1 + (c + b)
    sums c a b le = omega arith

pub none_apart : (cell : ℕ × ℕ) (cost : ℕ) → manhattan cell cell ≤ cost
none_apart cell cost = omega arith

-- ---- steps

-- the cell that a step goes to lies beside the cell that it comes from
beside : (x y action : ℕ) (cell goal : ℕ × ℕ) → cell_beside x y action ≡ Some cell → manhattan (x, y) goal ≤ 1 + manhattan cell goal
beside x y zero cell goal e = go (nat_lt 0 y) e
  where
    go : (test : Bool) → ◌≡◌ {A = Option (ℕ × ℕ)} (if test then Some (x, y - 1) else None) (Some cell) → manhattan (x, y) goal ≤ 1 + manhattan cell goal
    go true e = let same : ◌≡◌ {A = ℕ × ℕ} (x, y - 1) cell = cc in subst (λ c. manhattan (x, y) goal ≤ 1 + manhattan c goal) same (near_in_y x y (y - 1) goal (omega arith) (omega arith))
    go false e = cc
beside x y (suc zero) cell goal e =
    let same : ◌≡◌ {A = ℕ × ℕ} (x, y + 1) cell = cc in subst (λ c. manhattan (x, y) goal ≤ 1 + manhattan c goal) same (near_in_y x y (y + 1) goal (omega arith) (omega arith))
beside x y (suc (suc zero)) cell goal e = go (nat_lt 0 x) e
  where
    go : (test : Bool) → ◌≡◌ {A = Option (ℕ × ℕ)} (if test then Some (x - 1, y) else None) (Some cell) → manhattan (x, y) goal ≤ 1 + manhattan cell goal
    go true e = let same : ◌≡◌ {A = ℕ × ℕ} (x - 1, y) cell = cc in subst (λ c. manhattan (x, y) goal ≤ 1 + manhattan c goal) same (near_in_x x (x - 1) y goal (omega arith) (omega arith))
    go false e = cc
beside x y (suc (suc (suc zero))) cell goal e =
    let same : ◌≡◌ {A = ℕ × ℕ} (x + 1, y) cell = cc in subst (λ c. manhattan (x, y) goal ≤ 1 + manhattan c goal) same (near_in_x x (x + 1) y goal (omega arith) (omega arith))
beside x y (suc (suc (suc (suc more)))) cell goal e = cc

-- a cell that can be entered is the one that its state stands for
cell_is : (grid : GridParts) → IsGrid grid → (x y : ℕ) → is_passable (class_at grid x y) ≡ true → cell_of (cell_state x y) ≡ (x, y)
cell_is grid is x y e =
    let within : (x < grid.width) × (y < grid.height) = on_map grid x y e in
    let width : grid.width ≤ 2048 = is.width.1 in
    let height : grid.height ≤ 2048 = is.height.1 in
    let small_x : x < 2048 = (let a = within.0 in omega (arith, a, width)) in
    let small_y : y < 2048 = (let b = within.1 in omega (arith, b, height)) in
    ap (λ n. (n, bits_of (cell_state x y) 11 11)) (x_of x y small_x) ∙ ap (λ n. (x, n)) (y_of x y small_x small_y)

-- what a cell can bring nearer costs no more than to enter a cell, swamp or not
at_least_one : (swamp : Bool) (one all : ℕ) → one ≤ 1 + all → one ≤ (if swamp then 2 else 1) + all
at_least_one true one all le = omega (arith, le)
at_least_one false one all le = le

-- a step costs at least as much as it can bring nearer
nearer_to : (grid : GridParts) → IsGrid grid → (from : Class) (here cell : ℕ × ℕ) (to cost : ℕ) → manhattan here grid.goal ≤ 1 + manhattan cell grid.goal
    → step_to grid from (Some cell) ≡ Some (to, cost) → manhattan here grid.goal ≤ cost + manhattan (cell_of to) grid.goal
nearer_to grid is from here cell to cost le e = go (are_connected from (class_at grid cell.0 cell.1)) refl e
  where
    go : (test : Bool) → are_connected from (class_at grid cell.0 cell.1) ≡ test
        → ◌≡◌ {A = Option (ℕ × ℕ)} (if test then Some (cell_state cell.0 cell.1, entry_cost grid cell.0 cell.1) else None) (Some (to, cost)) → manhattan here grid.goal ≤ cost + manhattan (cell_of to) grid.goal
    go false joined e = cc
    go true joined e =
        let same : ◌≡◌ {A = ℕ × ℕ} (cell_state cell.0 cell.1, entry_cost grid cell.0 cell.1) (to, cost) = cc in
        let there : cell_of (cell_state cell.0 cell.1) ≡ cell = cell_is grid is cell.0 cell.1 (passable_to from (class_at grid cell.0 cell.1) joined) in
        subst (λ (p : ℕ × ℕ). manhattan here grid.goal ≤ p.1 + manhattan (cell_of p.0) grid.goal) same
        (subst (λ c. manhattan here grid.goal ≤ entry_cost grid cell.0 cell.1 + manhattan c grid.goal) (sym there)
        (at_least_one (is_swamp grid cell.0 cell.1) (manhattan here grid.goal) (manhattan cell grid.goal) le))

nearer : (grid : GridParts) → IsGrid grid → (from action to cost : ℕ) → Steps (grid_space grid) from action to cost
    → manhattan (cell_of from) grid.goal ≤ cost + manhattan (cell_of to) grid.goal
nearer grid is from action to cost step = go (cell_beside (bits_of from 0 11) (bits_of from 11 11) action) refl step
  where
    go : (cell : Option (ℕ × ℕ)) → cell_beside (bits_of from 0 11) (bits_of from 11 11) action ≡ cell → step_to grid (class_of_state grid from) cell ≡ Some (to, cost)
        → manhattan (cell_of from) grid.goal ≤ cost + manhattan (cell_of to) grid.goal
    go None at e = cc
    go (Some cell) at e =
        nearer_to grid is (class_of_state grid from) (cell_of from) cell to cost (beside (bits_of from 0 11) (bits_of from 11 11) action cell grid.goal at) e

-- ---- walks

at_goal : (grid : GridParts) → IsGrid grid → (state cost : ℕ) → IsTrue ((grid_space grid).is_goal state) → manhattan (cell_of state) grid.goal ≤ cost
at_goal grid is state cost e =
    let here : state ≡ cell_state grid.goal.0 grid.goal.1 = eqb-true state (cell_state grid.goal.0 grid.goal.1) e in
    let cell : cell_of state ≡ grid.goal = ap cell_of here ∙ cell_is grid is grid.goal.0 grid.goal.1 is.goal in
    subst (λ c. manhattan c grid.goal ≤ cost) (sym cell) (none_apart grid.goal cost)

pub no_way_is_shorter : (grid : GridParts) → IsGrid grid → (state : ℕ) (actions : List ℕ) (cost goal : ℕ) → Walk (grid_space grid) state actions cost goal
    → IsTrue ((grid_space grid).is_goal goal) → manhattan (cell_of state) grid.goal ≤ cost
no_way_is_shorter grid is = no_walk_is_cheaper (grid_space grid) (λ state. manhattan (cell_of state) grid.goal) (nearer grid is) (at_goal grid is)
