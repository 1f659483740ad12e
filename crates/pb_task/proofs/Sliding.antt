-- The blank's moves lead from boards to boards, by four actions, at cost 1.
use Rattle.std.proofs.Common.{◌≡◌, ℕ, zero, suc, ◌+◌, ◌*◌, ◌/◌, ◌%◌, ◌^◌, ◌<◌, ◌≤◌, Bool, true, false, IsTrue, Option, None, Some, List, get_or, nat_lt, ◌&&◌, if◌then◌else◌, length, ◌==◌, refl, sym, subst, ap, arith, ◌∙◌}
use Rattle.std.proofs.lemmas.Bool.{and_parts, eqb-true, ltb-true}
use Rattle.std.proofs.lemmas.List.Quantifiers.{position-Some}
use Rattle.std.proofs.Math.Nat.{mul-le-mul_left}
use Rattle.std.specs.Prelude.{swap}
use Rattle.std.specs.List.{list_all}
use Rattle.pb_model.specs.Space.{Steps, IsProper}
use Rattle.pb_task.specs.Grid.{cell_beside}
use Rattle.pb_task.specs.Tiles.{cell_count, is_board, board_state, board_of, is_board_state, cell_on, neighbour, exchange, slide, blank_of, slide_on, tiles_step, tiles_space, IsTiles}
use Rattle.pb_task.specs.Laws.{TilesAreProper}
use Rattle.pb_task.specs.declared.parts.TilesParts.{TilesParts}
use Rattle.pb_task.proofs.Boards.{Listed, listed, all_below_more, is_board_swapped, board_in, state_of_board, sixteen}

pub few_cells : (tiles : TilesParts) → IsTiles tiles → cell_count tiles ≤ 16
few_cells tiles is = product tiles.rows tiles.cols is.rows.1 is.cols.1 where
  product : (rows cols : ℕ) → rows ≤ 4 → cols ≤ 4 → rows * cols ≤ 16
  product rows cols r c = let up : rows * cols ≤ rows * 4 = mul-le-mul_left rows c in omega arith

-- a cell that the board has
pub cell_within : (rows cols : ℕ) (place : Option (ℕ × ℕ)) (cell : ℕ) → cell_on rows cols place ≡ Some cell → cell < rows * cols
cell_within rows cols None cell e = cc
cell_within rows cols (Some (x, y)) cell e = go (nat_lt x cols) (nat_lt y rows) refl refl e where
  inside : (x y : ℕ) → x < cols → y < rows → y * cols + x < rows * cols
  inside x y a b = grind arith

  go : (column row : Bool) → nat_lt x cols ≡ column → nat_lt y rows ≡ row → ◌≡◌ {A = Option ℕ} (if column && row then Some (y * cols + x) else None) (Some cell) → cell < rows * cols
  go true true a b e = let same : y * cols + x ≡ cell = cc in subst (λ c. c < rows * cols) same (inside x y (ltb-true x cols a) (ltb-true y rows b))
  go true false a b e = cc
  go false row a b e = cc

pub neighbour_within : (rows cols cell action to : ℕ) → neighbour rows cols cell action ≡ Some to → to < rows * cols
neighbour_within rows cols cell action to e = cell_within rows cols (cell_beside (cell % cols) (cell / cols) action) to e

pub blank_within : (board : List ℕ) (cell : ℕ) → blank_of board ≡ Some cell → cell < length board
blank_within board cell e = (position-Some (λ number. number == 0) board cell 0 e).0

pub blank_at : (board : List ℕ) (cell : ℕ) → blank_of board ≡ Some cell → get_or board cell 0 ≡ 0
blank_at board cell e = eqb-true (get_or board cell 0) 0 (position-Some (λ number. number == 0) board cell 0 e).1

-- ---- what a step is

-- the blank is in the first cell and changes places with the number in the second, which lies in the action's direction
pub record Moves (tiles : TilesParts) (board : List ℕ) (action to cost : ℕ) : Type 0 where
  pub blank : ℕ
  pub other : ℕ
  pub blank_is : blank_of board ≡ Some blank
  pub other_is : neighbour tiles.rows tiles.cols blank action ≡ Some other
  pub to_is : to ≡ board_state (swap board blank other)
  pub unit : cost ≡ 1

pub slides_on : (tiles : TilesParts) (board : List ℕ) (action to cost : ℕ) → slide_on tiles.rows tiles.cols board action ≡ Some (to, cost) → Moves tiles board action to cost
slides_on tiles board action to cost e = from_blank (blank_of board) refl e where
  from_other : (blank : ℕ) → blank_of board ≡ Some blank → (other : Option ℕ) → neighbour tiles.rows tiles.cols blank action ≡ other → exchange board blank other ≡ Some (to, cost) → Moves tiles board action to cost
  from_other blank is None is' e = cc
  from_other blank is (Some other) is' e =
      let same : ◌≡◌ {A = ℕ × ℕ} (board_state (swap board blank other), 1) (to, cost) = cc in
      record { blank = blank; other = other; blank_is = is; other_is = is'; to_is = sym (ap (λ (p : ℕ × ℕ). p.0) same); unit = sym (ap (λ (p : ℕ × ℕ). p.1) same) }

  from_blank : (blank : Option ℕ) → blank_of board ≡ blank → slide tiles.rows tiles.cols board blank action ≡ Some (to, cost) → Moves tiles board action to cost
  from_blank None is e = cc
  from_blank (Some blank) is e = from_other blank is (neighbour tiles.rows tiles.cols blank action) refl e

pub record IsStep (tiles : TilesParts) (from action to cost : ℕ) : Type 0 where
  pub from_state : IsTrue (is_board_state (cell_count tiles) from)
  pub slides : Moves tiles (board_of (cell_count tiles) from) action to cost

pub step_is : (tiles : TilesParts) (from action to cost : ℕ) → Steps (tiles_space tiles) from action to cost → IsStep tiles from action to cost
step_is tiles from action to cost e = go (is_board_state (cell_count tiles) from) refl e where
  go : (test : Bool) → is_board_state (cell_count tiles) from ≡ test
      → ◌≡◌ {A = Option (ℕ × ℕ)} (if test then slide_on tiles.rows tiles.cols (board_of (cell_count tiles) from) action else None) (Some (to, cost)) → IsStep tiles from action to cost
  go true is e = record { from_state = is; slides = slides_on tiles (board_of (cell_count tiles) from) action to cost e }
  go false is e = cc

-- a step leads to a board, which is the one before with two numbers exchanged
pub swapped : (tiles : TilesParts) → IsTiles tiles → (board : List ℕ) (action to cost : ℕ) → Listed (cell_count tiles) board → (s : Moves tiles board action to cost)
    → Listed (cell_count tiles) (swap board s.blank s.other)
swapped tiles is board action to cost l s =
    let first : s.blank < length board = blank_within board s.blank s.blank_is in
    let many : length board ≡ cell_count tiles = l.many in
    is_board_swapped (cell_count tiles) board s.blank s.other l (subst (λ n. s.blank < n) many first) (neighbour_within tiles.rows tiles.cols s.blank action s.other s.other_is)

to_state : (tiles : TilesParts) → IsTiles tiles → (from action to cost : ℕ) → IsStep tiles from action to cost → IsTrue (is_board_state (cell_count tiles) to)
to_state tiles is from action to cost s =
    let board = board_of (cell_count tiles) from in
    let l : Listed (cell_count tiles) board = listed (cell_count tiles) board (board_in (cell_count tiles) from s.from_state) in
    subst (λ t. IsTrue (is_board_state (cell_count tiles) t)) (sym s.slides.to_is)
    (state_of_board (cell_count tiles) (swap board s.slides.blank s.slides.other) (few_cells tiles is) (swapped tiles is board action to cost l s.slides)).0

pub four_moves : (rows cols cell action to : ℕ) → neighbour rows cols cell action ≡ Some to → action < 4
four_moves rows cols cell zero to e = omega arith
four_moves rows cols cell (suc zero) to e = omega arith
four_moves rows cols cell (suc (suc zero)) to e = omega arith
four_moves rows cols cell (suc (suc (suc zero))) to e = omega arith
four_moves rows cols cell (suc (suc (suc (suc more)))) to e = cc

pub tiles_is_proper : (tiles : TilesParts) → IsTiles tiles → IsProper (tiles_space tiles) 1
tiles_is_proper tiles is = record {
  start = (state_of_board (cell_count tiles) tiles.start (few_cells tiles is) (listed (cell_count tiles) tiles.start is.start)).0;
  action = λ from action to cost step.
      let s : IsStep tiles from action to cost = step_is tiles from action to cost step in four_moves tiles.rows tiles.cols s.slides.blank action s.slides.other s.slides.other_is;
  from_state = λ from action to cost step. (step_is tiles from action to cost step).from_state;
  to_state = λ from action to cost step. to_state tiles is from action to cost (step_is tiles from action to cost step);
  positive = λ from action to cost step. let unit : cost ≡ 1 = (step_is tiles from action to cost step).slides.unit in omega arith;
  bounded = λ from action to cost step. let unit : cost ≡ 1 = (step_is tiles from action to cost step).slides.unit in omega arith;
}

pub boards_are_small : (tiles : TilesParts) → IsTiles tiles → (state : ℕ) → IsTrue ((tiles_space tiles).is_state state) → state < 2 ^ 64
boards_are_small tiles is state e =
    let less : state < 16 ^ cell_count tiles = ltb-true state (16 ^ cell_count tiles) (and_parts (nat_lt state (16 ^ cell_count tiles)) (is_board (cell_count tiles) (board_of (cell_count tiles) state)) e).0 in
    let up : 16 ^ cell_count tiles ≤ 2 ^ 64 = sixteen (cell_count tiles) (few_cells tiles is) in
    omega (arith, less, up)

pub tiles_are_proper : TilesAreProper
tiles_are_proper tiles is = (tiles_is_proper tiles is, refl, boards_are_small tiles is)

-- the numbers of a board are small, and stay so
pub small_numbers : (tiles : TilesParts) → IsTiles tiles → (board : List ℕ) → IsTrue (is_board (cell_count tiles) board) → list_all (λ number. nat_lt number 16) board ≡ true
small_numbers tiles is board e = all_below_more (cell_count tiles) 16 board (few_cells tiles is) (listed (cell_count tiles) board e).small

pub few_numbers : (tiles : TilesParts) → IsTiles tiles → (board : List ℕ) → IsTrue (is_board (cell_count tiles) board) → length board ≤ 16
few_numbers tiles is board e = let few : cell_count tiles ≤ 16 = few_cells tiles is in let many : length board ≡ cell_count tiles = (listed (cell_count tiles) board e).many in subst (λ n. n ≤ 16) (sym many) few

-- the step from a state that is a board
pub step_from : (tiles : TilesParts) (state action : ℕ) (cells : List ℕ) → IsTrue (is_board_state (cell_count tiles) state) → cells ≡ board_of (cell_count tiles) state
    → slide_on tiles.rows tiles.cols cells action ≡ tiles_step tiles state action
step_from tiles state action cells is read =
    ap (λ board. slide_on tiles.rows tiles.cols board action) read
    ∙ ap (λ test. if test then slide_on tiles.rows tiles.cols (board_of (cell_count tiles) state) action else None) (sym is)
