-- A step of sliding tiles moves one tile by one cell, so the sum of the tiles' Manhattan distances is admissible.
use Rattle.std.proofs.Common.{◌≡◌, ◌≢◌, ℕ, zero, suc, ◌+◌, ◌/◌, ◌%◌, ◌<◌, ◌≤◌, Bool, true, false, IsTrue, None, Some, List, get_or, nat_lt, ◌==◌, if◌then◌else◌, length, unwrap_or, refl, sym, subst, ap, arith, ◌∙◌, ◌⊎◌, inl, inr}
use Rattle.std.proofs.lemmas.Bool.{cases_eq, eqb-true, lt-ltb}
use Rattle.std.proofs.lemmas.Bool.Decides.{nat_tests}
use Rattle.std.proofs.lemmas.List.Sums.{position_or_len_is}
use Rattle.std.proofs.lemmas.Map.Keys.{apart_from_distinct}
use Rattle.std.specs.List.{position_or_len}
use Rattle.pb_model.specs.Space.{Steps}
use Rattle.pb_model.specs.Plan.{Walk}
use Rattle.pb_model.proofs.Callers.{equal_self, equal_swap}
use Rattle.pb_task.specs.Tiles.{cell_count, board_state, board_of, is_board_state, tiles_space, IsTiles}
use Rattle.pb_task.specs.Slides.{LiesBeside, Slides}
use Rattle.pb_task.specs.declared.parts.TilesParts.{TilesParts}
use Rattle.pb_task.proofs.Callers.{Listed, listed, to_distinct, boards_are_packed, few_cells, step_is, tiles_slide}
use Rattle.pb_estimate.specs.Estimates.{manhattan, place_of, cell_with, way_home, ways_home}
use Rattle.pb_estimate.proofs.Consistent.{no_walk_is_cheaper}
use Rattle.pb_estimate.proofs.Grids.{near_in_x, near_in_y}

-- ---- sums

abbrev pub sum_below : (ways : ℕ → ℕ) → (count : ℕ) → ℕ
sum_below ways zero = 0
sum_below ways (suc cell) = sum_below ways cell + ways cell

pub ways_are : (cols : ℕ) (goal board : List ℕ) (count : ℕ) → ways_home cols goal board count ≡ sum_below (λ cell. way_home cols goal cell (get_or board cell 0)) count
ways_are cols goal board zero = refl
ways_are cols goal board (suc cell) = ap (λ n. n + way_home cols goal cell (get_or board cell 0)) (ways_are cols goal board cell)

pub none : (ways : ℕ → ℕ) (count : ℕ) → ((cell : ℕ) → cell < count → ways cell ≡ 0) → sum_below ways count ≡ 0
none ways zero zeros = refl
none ways (suc cell) zeros =
    let rest : sum_below ways cell ≡ 0 = none ways cell (λ k less. zeros k (omega (arith, less))) in
    let last : ways cell ≡ 0 = zeros cell (omega arith) in
    omega (arith, rest, last)

-- what a cell adds to the sum over the first cells
part : (cell count way : ℕ) → ℕ
part cell count way = if nat_lt cell count then way else 0

part_more : (cell count way : ℕ) → cell ≢ count → part cell (suc count) way ≡ part cell count way
unfolding part
part_more cell count way other = grind (arith, nat_tests)

part_now : (cell way : ℕ) → part cell (suc cell) way ≡ way
unfolding part
part_now cell way = grind (arith, nat_tests)

part_past : (cell way : ℕ) → part cell cell way ≡ 0
unfolding part
part_past cell way = grind (arith, nat_tests)

part_none : (cell way : ℕ) → part cell 0 way ≡ 0
unfolding part
part_none cell way = grind (arith, nat_tests)

part_all : (cell count way : ℕ) → cell < count → part cell count way ≡ way
unfolding part
part_all cell count way less = grind (arith, nat_tests)

-- two sums that differ at two cells alone
module _ (ways ways' : ℕ → ℕ) (p q : ℕ) (apart_cells : p ≢ q) (others : (cell : ℕ) → cell ≢ p → cell ≢ q → ways' cell ≡ ways cell) where
  abbrev Balanced : (count : ℕ) → Type 0
  Balanced count =
      sum_below ways count + (part p count (ways' p) + part q count (ways' q)) ≡ sum_below ways' count + (part p count (ways p) + part q count (ways q))

  go : (n : ℕ) → (n ≡ p) ⊎ (n ≢ p) → (n ≡ q) ⊎ (n ≢ q) → Balanced n → Balanced (suc n)
  go n (inl e) (inl e') before = absurd (apart_cells (sym e ∙ e'))
  go n (inl e) (inr ne) before =
      let now' : part p (suc n) (ways' p) ≡ ways' p = subst (λ k. part p (suc k) (ways' p) ≡ ways' p) (sym e) (part_now p (ways' p)) in
      let now : part p (suc n) (ways p) ≡ ways p = subst (λ k. part p (suc k) (ways p) ≡ ways p) (sym e) (part_now p (ways p)) in
      let past' : part p n (ways' p) ≡ 0 = subst (λ k. part p k (ways' p) ≡ 0) (sym e) (part_past p (ways' p)) in
      let past : part p n (ways p) ≡ 0 = subst (λ k. part p k (ways p) ≡ 0) (sym e) (part_past p (ways p)) in
      let more' : part q (suc n) (ways' q) ≡ part q n (ways' q) = part_more q n (ways' q) (λ same. ne (sym same)) in
      let more : part q (suc n) (ways q) ≡ part q n (ways q) = part_more q n (ways q) (λ same. ne (sym same)) in
      let here' : ways' n ≡ ways' p = ap ways' e in
      let here : ways n ≡ ways p = ap ways e in
      omega (arith, now', now, past', past, more', more, here', here, before)
  go n (inr ne) (inl e) before =
      let now' : part q (suc n) (ways' q) ≡ ways' q = subst (λ k. part q (suc k) (ways' q) ≡ ways' q) (sym e) (part_now q (ways' q)) in
      let now : part q (suc n) (ways q) ≡ ways q = subst (λ k. part q (suc k) (ways q) ≡ ways q) (sym e) (part_now q (ways q)) in
      let past' : part q n (ways' q) ≡ 0 = subst (λ k. part q k (ways' q) ≡ 0) (sym e) (part_past q (ways' q)) in
      let past : part q n (ways q) ≡ 0 = subst (λ k. part q k (ways q) ≡ 0) (sym e) (part_past q (ways q)) in
      let more' : part p (suc n) (ways' p) ≡ part p n (ways' p) = part_more p n (ways' p) (λ same. ne (sym same)) in
      let more : part p (suc n) (ways p) ≡ part p n (ways p) = part_more p n (ways p) (λ same. ne (sym same)) in
      let here' : ways' n ≡ ways' q = ap ways' e in
      let here : ways n ≡ ways q = ap ways e in
      omega (arith, now', now, past', past, more', more, here', here, before)
  go n (inr ne) (inr ne') before =
      let p_more' : part p (suc n) (ways' p) ≡ part p n (ways' p) = part_more p n (ways' p) (λ same. ne (sym same)) in
      let p_more : part p (suc n) (ways p) ≡ part p n (ways p) = part_more p n (ways p) (λ same. ne (sym same)) in
      let q_more' : part q (suc n) (ways' q) ≡ part q n (ways' q) = part_more q n (ways' q) (λ same. ne' (sym same)) in
      let q_more : part q (suc n) (ways q) ≡ part q n (ways q) = part_more q n (ways q) (λ same. ne' (sym same)) in
      let same : ways' n ≡ ways n = others n ne ne' in
      omega (arith, p_more', p_more, q_more', q_more, same, before)

  balance : (count : ℕ) → Balanced count
  balance zero =
      let a : part p 0 (ways' p) ≡ 0 = part_none p (ways' p) in
      let b : part q 0 (ways' q) ≡ 0 = part_none q (ways' q) in
      let c : part p 0 (ways p) ≡ 0 = part_none p (ways p) in
      let d : part q 0 (ways q) ≡ 0 = part_none q (ways q) in
      omega (arith, a, b, c, d)
  balance (suc n) = go n (cases_eq n p) (cases_eq n q) (balance n)

  exchanged : (count : ℕ) → p < count → q < count → sum_below ways count + (ways' p + ways' q) ≡ sum_below ways' count + (ways p + ways q)
  exchanged count first second =
      let a : part p count (ways' p) ≡ ways' p = part_all p count (ways' p) first in
      let b : part q count (ways' q) ≡ ways' q = part_all q count (ways' q) second in
      let c : part p count (ways p) ≡ ways p = part_all p count (ways p) first in
      let d : part q count (ways q) ≡ ways q = part_all q count (ways q) second in
      omega (arith, a, b, c, d, balance count)

-- ---- cells side by side

near_beside : (cols from to action : ℕ) (home : ℕ × ℕ) → LiesBeside cols from to action → manhattan (place_of cols to) home ≤ 1 + manhattan (place_of cols from) home
near_beside cols from to zero home b =
    subst (λ x. manhattan (x, to / cols) home ≤ 1 + manhattan (place_of cols from) home) b.0
    (let row : from / cols ≡ to / cols + 1 = b.1 in near_in_y (from % cols) (to / cols) (from / cols) home (omega (arith, row)) (omega (arith, row)))
near_beside cols from to (suc zero) home b =
    subst (λ x. manhattan (x, to / cols) home ≤ 1 + manhattan (place_of cols from) home) b.0
    (let row : to / cols ≡ from / cols + 1 = b.1 in near_in_y (from % cols) (to / cols) (from / cols) home (omega (arith, row)) (omega (arith, row)))
near_beside cols from to (suc (suc zero)) home b =
    subst (λ y. manhattan (to % cols, y) home ≤ 1 + manhattan (place_of cols from) home) b.0
    (let column : from % cols ≡ to % cols + 1 = b.1 in near_in_x (to % cols) (from % cols) (from / cols) home (omega (arith, column)) (omega (arith, column)))
near_beside cols from to (suc (suc (suc zero))) home b =
    subst (λ y. manhattan (to % cols, y) home ≤ 1 + manhattan (place_of cols from) home) b.0
    (let column : to % cols ≡ from % cols + 1 = b.1 in near_in_x (to % cols) (from % cols) (from / cols) home (omega (arith, column)) (omega (arith, column)))
near_beside cols from to (suc (suc (suc (suc more)))) home b = absurd b

near_home : (cols from to action number : ℕ) (goal : List ℕ) → LiesBeside cols from to action → way_home cols goal to number ≤ 1 + way_home cols goal from number
near_home cols from to action number goal b = go (number == 0) where
  go : (blank : Bool) → (if blank then 0 else manhattan (place_of cols to) (place_of cols (cell_with goal number)))
      ≤ 1 + (if blank then 0 else manhattan (place_of cols from) (place_of cols (cell_with goal number)))
  go true = omega arith
  go false = near_beside cols from to action (place_of cols (cell_with goal number)) b

-- no cell lies beside itself
not_beside_itself : (cols cell action : ℕ) → LiesBeside cols cell cell action → ⊥
not_beside_itself cols cell zero b = let row : cell / cols ≡ cell / cols + 1 = b.1 in omega (arith, row)
not_beside_itself cols cell (suc zero) b = let row : cell / cols ≡ cell / cols + 1 = b.1 in omega (arith, row)
not_beside_itself cols cell (suc (suc zero)) b = let column : cell % cols ≡ cell % cols + 1 = b.1 in omega (arith, column)
not_beside_itself cols cell (suc (suc (suc zero))) b = let column : cell % cols ≡ cell % cols + 1 = b.1 in omega (arith, column)
not_beside_itself cols cell (suc (suc (suc (suc more)))) b = b

-- ---- steps

-- one exchange brings the tiles nearer to their cells by one at most
one_nearer : (tiles : TilesParts) (goal before after : List ℕ) (action : ℕ) → Slides tiles action before after
    → ways_home tiles.cols goal before (cell_count tiles) ≤ 1 + ways_home tiles.cols goal after (cell_count tiles)
one_nearer tiles goal before after action s =
    let cols : ℕ = tiles.cols in
    let ways : ℕ → ℕ = λ cell. way_home tiles.cols goal cell (get_or before cell 0) in
    let ways' : ℕ → ℕ = λ cell. way_home tiles.cols goal cell (get_or after cell 0) in
    let balance : sum_below ways (cell_count tiles) + (ways' s.blank + ways' s.tile) ≡ sum_below ways' (cell_count tiles) + (ways s.blank + ways s.tile) =
    exchanged ways ways' s.blank s.tile (λ same. not_beside_itself tiles.cols s.blank action (subst (λ t. LiesBeside tiles.cols s.blank t action) (sym same) s.beside))
    (λ cell other other'. ap (way_home tiles.cols goal cell) (s.others_stay cell other other')) (cell_count tiles) s.on_board.0 s.on_board.1 in
    let blank_was : ways s.blank ≡ 0 = ap (way_home tiles.cols goal s.blank) s.blank_was in
    let blank_is : ways' s.tile ≡ 0 = ap (way_home tiles.cols goal s.tile) s.blank_is in
    let tile_is : ways' s.blank ≡ way_home tiles.cols goal s.blank (get_or before s.tile 0) = ap (way_home tiles.cols goal s.blank) s.tile_is in
    let near : ways s.tile ≤ 1 + way_home tiles.cols goal s.blank (get_or before s.tile 0) = near_home tiles.cols s.blank s.tile action (get_or before s.tile 0) goal s.beside in
    sums (sum_below ways (cell_count tiles)) (sum_below ways' (cell_count tiles)) (ways s.blank) (ways s.tile) (ways' s.blank) (ways' s.tile) (way_home tiles.cols goal s.blank (get_or before s.tile 0))
    balance blank_was blank_is tile_is near (ways_home tiles.cols goal before (cell_count tiles)) (ways_home tiles.cols goal after (cell_count tiles))
    (ways_are tiles.cols goal before (cell_count tiles)) (ways_are tiles.cols goal after (cell_count tiles))
  where
    sums : (s s' p q p' q' w : ℕ) → s + (p' + q') ≡ s' + (p + q) → p ≡ 0 → q' ≡ 0 → p' ≡ w → q ≤ 1 + w → (t t' : ℕ) → t ≡ s → t' ≡ s' → t ≤ 1 + t'
    sums s s' p q p' q' w a b c d e t t' f g = omega arith

estimate : TilesParts → ℕ → ℕ
estimate tiles state = ways_home tiles.cols tiles.goal (board_of (cell_count tiles) state) (cell_count tiles)

step_costs : (tiles : TilesParts) → IsTiles tiles → (from action to cost : ℕ) → Steps (tiles_space tiles) from action to cost → estimate tiles from ≤ cost + estimate tiles to
unfolding estimate
step_costs tiles is from action to cost step =
    let at : IsTrue (is_board_state (cell_count tiles) from) = (step_is tiles from action to cost step).from_state in
    let before : List ℕ = board_of (cell_count tiles) from in
    let packed = boards_are_packed (cell_count tiles) (few_cells tiles is) in
    let whole : board_state (board_of (cell_count tiles) from) ≡ from = (packed.1 from at).1 in
    let slid = (tiles_slide tiles is (board_of (cell_count tiles) from) (packed.1 from at).0 action to cost).0 (subst (λ n. Steps (tiles_space tiles) n action to cost) (sym whole) step) in
    let there : board_of (cell_count tiles) to ≡ slid.0 = ap (board_of (cell_count tiles)) slid.3 ∙ (packed.0 slid.0 slid.1).1 in
    subst (λ n. ways_home tiles.cols tiles.goal (board_of (cell_count tiles) from) (cell_count tiles) ≤ n + ways_home tiles.cols tiles.goal (board_of (cell_count tiles) to) (cell_count tiles)) (sym slid.4)
    (subst (λ b. ways_home tiles.cols tiles.goal (board_of (cell_count tiles) from) (cell_count tiles) ≤ 1 + ways_home tiles.cols tiles.goal b (cell_count tiles)) (sym there)
    (one_nearer tiles tiles.goal (board_of (cell_count tiles) from) slid.0 action slid.2))

-- ---- the goal

-- a number of the board is in its own cell alone
pub own_cell : (count : ℕ) (board : List ℕ) (cell : ℕ) → Listed count board → cell < length board → cell_with board (get_or board cell 0) ≡ cell
own_cell count board cell l less =
    let first : position_or_len (λ number. number == get_or board cell 0) board ≡ cell = position_or_len_is (λ number. number == get_or board cell 0) board cell 0 (omega arith)
    (λ k k_less. equal_swap (get_or board k 0) (get_or board cell 0) ∙ apart_from_distinct (λ x y. y == x) board k cell 0 (to_distinct board l.distinct) k_less less)
    (λ _. equal_self (get_or board cell 0)) in
    ap (λ n. unwrap_or (if nat_lt n (length board) then Some n else None) 0) first ∙ ap (λ test. unwrap_or (if test then Some cell else None) 0) (lt-ltb cell (length board) less)

no_way : (cols : ℕ) (goal : List ℕ) (cell number : ℕ) → cell_with goal number ≡ cell → way_home cols goal cell number ≡ 0
no_way cols goal cell number home = go (number == 0) where
  at_home : (p : ℕ × ℕ) → manhattan p p ≡ 0
  at_home p = omega arith

  go : (blank : Bool) → (if blank then 0 else manhattan (place_of cols cell) (place_of cols (cell_with goal number))) ≡ 0
  go true = refl
  go false = ap (λ c. manhattan (place_of cols cell) (place_of cols c)) home ∙ at_home (place_of cols cell)

goal_is_zero : (tiles : TilesParts) → IsTiles tiles → (state cost : ℕ) → IsTrue ((tiles_space tiles).is_goal state) → estimate tiles state ≤ cost
unfolding estimate
goal_is_zero tiles is state cost e =
    let here : state ≡ board_state tiles.goal = eqb-true state (board_state tiles.goal) e in
    let board : board_of (cell_count tiles) state ≡ tiles.goal = ap (board_of (cell_count tiles)) here ∙ ((boards_are_packed (cell_count tiles) (few_cells tiles is)).0 tiles.goal is.goal).1 in
    let l : Listed (cell_count tiles) tiles.goal = listed (cell_count tiles) tiles.goal is.goal in
    let zero_ways : ways_home tiles.cols tiles.goal tiles.goal (cell_count tiles) ≡ 0 =
    ways_are tiles.cols tiles.goal tiles.goal (cell_count tiles)
    ∙ none (λ cell. way_home tiles.cols tiles.goal cell (get_or tiles.goal cell 0)) (cell_count tiles)
    (λ cell less. no_way tiles.cols tiles.goal cell (get_or tiles.goal cell 0) (own_cell (cell_count tiles) tiles.goal cell l (subst (λ n. cell < n) (sym l.many) less))) in
    subst (λ b. ways_home tiles.cols tiles.goal b (cell_count tiles) ≤ cost) (sym board) (omega (arith, zero_ways))

pub no_slides_are_fewer : (tiles : TilesParts) → IsTiles tiles → (state : ℕ) (actions : List ℕ) (cost goal : ℕ) → Walk (tiles_space tiles) state actions cost goal
    → IsTrue ((tiles_space tiles).is_goal goal) → ways_home tiles.cols tiles.goal (board_of (cell_count tiles) state) (cell_count tiles) ≤ cost
unfolding estimate
no_slides_are_fewer tiles is = no_walk_is_cheaper (tiles_space tiles) (estimate tiles) (step_costs tiles is) (goal_is_zero tiles is)
