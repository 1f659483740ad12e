-- The steps of sliding tiles, said of two boards.
use Rattle.std.proofs.Common.{◌≡◌, ◌≢◌, ℕ, zero, suc, ◌+◌, ◌-◌, ◌*◌, ◌/◌, ◌%◌, ◌<◌, ◌≤◌, Bool, true, false, IsTrue, Option, None, Some, List, get_or, nat_lt, ◌==◌, ◌&&◌, if◌then◌else◌, length, refl, sym, subst, ap, arith, ◌∙◌, ext_get_or, ◌⊎◌, inl, inr}
use Rattle.std.proofs.lemmas.Bool.{cases_eq, eq-eqb, ltb-true, lt-ltb}
use Rattle.std.proofs.lemmas.Nat.{div-mul-add, mod-mul-add, div-add-mod', div_below, mod_below}
use Rattle.std.proofs.lemmas.List.Edits.{length-swap, swapped_from_swap, Swapped}
use Rattle.std.proofs.lemmas.List.Sums.{position_or_len_is}
use Rattle.std.proofs.lemmas.Map.Keys.{apart_from_distinct}
use Rattle.std.specs.Prelude.{swap}
use Rattle.std.specs.List.{position_or_len}
use Rattle.pb_model.specs.Space.{Steps}
use Rattle.pb_model.proofs.Callers.{equal_swap}
use Rattle.pb_task.specs.Tiles.{cell_count, is_board, board_state, board_of, cell_on, neighbour, exchange, slide, blank_of, slide_on, tiles_space, IsTiles}
use Rattle.pb_task.specs.Slides.{LiesBeside, Slides}
use Rattle.pb_task.specs.Laws.{TilesSlide}
use Rattle.pb_task.specs.declared.parts.TilesParts.{TilesParts}
use Rattle.pb_task.proofs.Boards.{Listed, listed, is_board_by, state_of_board, to_distinct}
use Rattle.pb_task.proofs.Sliding.{Moves, IsStep, step_is, swapped, few_cells, neighbour_within, blank_within, blank_at}

-- ---- cells side by side

-- a cell that a board has is in its column and row
record Placed (cols x y cell : ℕ) : Type 0 where
  column : cell % cols ≡ x
  row : cell / cols ≡ y

placed : (rows cols x y cell : ℕ) → cell_on rows cols (Some (x, y)) ≡ Some cell → Placed cols x y cell
placed rows cols x y cell e = go (nat_lt x cols) (nat_lt y rows) refl e where
  at : x < cols → y * cols + x ≡ cell → Placed cols x y cell
  at less is = record { column = ap (λ n. n % cols) (sym is) ∙ mod-mul-add y cols x less; row = ap (λ n. n / cols) (sym is) ∙ div-mul-add y cols x less }

  go : (column row : Bool) → nat_lt x cols ≡ column → ◌≡◌ {A = Option ℕ} (if column && row then Some (y * cols + x) else None) (Some cell) → Placed cols x y cell
  go true true a e = at (ltb-true x cols a) (let same : y * cols + x ≡ cell = cc in same)
  go true false a e = cc
  go false row a e = cc

-- the neighbour in an action's direction lies beside the cell there
pub lies_beside : (rows cols from action to : ℕ) → neighbour rows cols from action ≡ Some to → LiesBeside cols from to action
lies_beside rows cols from zero to e = go (nat_lt 0 (from / cols)) refl e where
  go : (test : Bool) → nat_lt 0 (from / cols) ≡ test → cell_on rows cols (if test then Some (from % cols, from / cols - 1) else None) ≡ Some to → LiesBeside cols from to zero
  go true is e =
      let p : Placed cols (from % cols) (from / cols - 1) to = placed rows cols (from % cols) (from / cols - 1) to e in
      let some : 0 < from / cols = ltb-true 0 (from / cols) is in
      let row : to / cols ≡ from / cols - 1 = p.row in
      (sym p.column, omega (arith, some, row))
  go false is e = cc
lies_beside rows cols from (suc zero) to e =
    let p : Placed cols (from % cols) (from / cols + 1) to = placed rows cols (from % cols) (from / cols + 1) to e in (sym p.column, p.row)
lies_beside rows cols from (suc (suc zero)) to e = go (nat_lt 0 (from % cols)) refl e where
  go : (test : Bool) → nat_lt 0 (from % cols) ≡ test → cell_on rows cols (if test then Some (from % cols - 1, from / cols) else None) ≡ Some to → LiesBeside cols from to (suc (suc zero))
  go true is e =
      let p : Placed cols (from % cols - 1) (from / cols) to = placed rows cols (from % cols - 1) (from / cols) to e in
      let some : 0 < from % cols = ltb-true 0 (from % cols) is in
      let column : to % cols ≡ from % cols - 1 = p.column in
      (sym p.row, omega (arith, some, column))
  go false is e = cc
lies_beside rows cols from (suc (suc (suc zero))) to e =
    let p : Placed cols (from % cols + 1) (from / cols) to = placed rows cols (from % cols + 1) (from / cols) to e in (sym p.row, p.column)
lies_beside rows cols from (suc (suc (suc (suc more)))) to e = cc

-- a cell in a column and a row
on_board : (rows cols x y to : ℕ) → 0 < cols → to < rows * cols → to % cols ≡ x → to / cols ≡ y → cell_on rows cols (Some (x, y)) ≡ Some to
on_board rows cols x y to some less column row =
    ap (λ test. if test && nat_lt y rows then Some (y * cols + x) else None) (lt-ltb x cols (subst (λ n. n < cols) column (mod_below to cols some)))
    ∙ ap (λ test. if test then Some (y * cols + x) else None) (lt-ltb y rows (subst (λ n. n < rows) row (div_below to cols rows some less)))
    ∙ ap Some (ap (λ n. y * cols + n) (sym column) ∙ ap (λ n. n * cols + to % cols) (sym row) ∙ div-add-mod' to cols)

-- the cell beside is the neighbour
pub is_neighbour : (rows cols from action to : ℕ) → 0 < cols → to < rows * cols → LiesBeside cols from to action → neighbour rows cols from action ≡ Some to
is_neighbour rows cols from zero to some less b =
    let above : from / cols ≡ to / cols + 1 = b.1 in
    ap (λ test. cell_on rows cols (if test then Some (from % cols, from / cols - 1) else None)) (lt-ltb 0 (from / cols) (omega (arith, above)))
    ∙ on_board rows cols (from % cols) (from / cols - 1) to some less (sym b.0) (omega (arith, above))
is_neighbour rows cols from (suc zero) to some less b = on_board rows cols (from % cols) (from / cols + 1) to some less (sym b.0) b.1
is_neighbour rows cols from (suc (suc zero)) to some less b =
    let right : from % cols ≡ to % cols + 1 = b.1 in
    ap (λ test. cell_on rows cols (if test then Some (from % cols - 1, from / cols) else None)) (lt-ltb 0 (from % cols) (omega (arith, right)))
    ∙ on_board rows cols (from % cols - 1) (from / cols) to some less (omega (arith, right)) (sym b.0)
is_neighbour rows cols from (suc (suc (suc zero))) to some less b = on_board rows cols (from % cols + 1) (from / cols) to some less b.1 (sym b.0)
is_neighbour rows cols from (suc (suc (suc (suc more)))) to some less b = absurd b

-- ---- the blank

-- the blank is in one cell alone
pub blank_is_there : (count : ℕ) (board : List ℕ) (cell : ℕ) → Listed count board → cell < length board → get_or board cell 0 ≡ 0 → blank_of board ≡ Some cell
blank_is_there count board cell l less here =
    let first : position_or_len (λ number. number == 0) board ≡ cell = position_or_len_is (λ number. number == 0) board cell 0 (omega arith)
    (λ k k_less. let apart : (get_or board cell 0 == get_or board k 0) ≡ false = apart_from_distinct (λ x y. y == x) board k cell 0 (to_distinct board l.distinct) k_less less in zero_apart (get_or board k 0) (get_or board cell 0) here apart)
    (λ _. eq-eqb (get_or board cell 0) 0 here) in
    ap (λ n. if nat_lt n (length board) then Some n else None) first ∙ ap (λ test. if test then Some cell else None) (lt-ltb cell (length board) less)
  where
    zero_apart : (n m : ℕ) → m ≡ 0 → (m == n) ≡ false → (n == 0) ≡ false
    zero_apart n m e apart = equal_swap n 0 ∙ ap (λ k. k == n) (sym e) ∙ apart

-- ---- steps

module _ (tiles : TilesParts) (is : IsTiles tiles) (before : List ℕ) (board : IsTrue (is_board (cell_count tiles) before)) where
  l : Listed (cell_count tiles) before
  l = listed (cell_count tiles) before board

  forth : (action to cost : ℕ) → Moves tiles before action to cost
      → (after : List ℕ) × IsTrue (is_board (cell_count tiles) after) × Slides tiles action before after × (to ≡ board_state after) × (cost ≡ 1)
  forth action to cost m =
      let first : m.blank < length before = blank_within before m.blank m.blank_is in
      let second : m.other < cell_count tiles = neighbour_within tiles.rows tiles.cols m.blank action m.other m.other_is in
      let many : length before ≡ cell_count tiles = l.many in
      let second' : m.other < length before = subst (λ n. m.other < n) (sym many) second in
      let s : Swapped (λ i. get_or before i 0) (λ i. get_or (swap before m.blank m.other) i 0) m.blank m.other = swapped_from_swap before (swap before m.blank m.other) m.blank m.other 0 first second' refl in (
        swap before m.blank m.other,
        is_board_by (cell_count tiles) (swap before m.blank m.other) (swapped tiles is before action to cost l m),
        record {
          blank = m.blank;
          tile = m.other;
          on_board = (subst (λ n. m.blank < n) many first, second);
          beside = lies_beside tiles.rows tiles.cols m.blank action m.other m.other_is;
          blank_was = blank_at before m.blank m.blank_is;
          blank_is = s.1 ∙ blank_at before m.blank m.blank_is;
          tile_is = s.0;
          others_stay = s.2;
        },
        m.to_is,
        m.unit,
      )

  back : (action to cost : ℕ) (after : List ℕ) → IsTrue (is_board (cell_count tiles) after) → Slides tiles action before after → to ≡ board_state after → cost ≡ 1
      → Steps (tiles_space tiles) (board_state before) action to cost
  back action to cost after after_is s to_is unit =
      let many : length before ≡ cell_count tiles = l.many in
      let many' : length after ≡ cell_count tiles = (listed (cell_count tiles) after after_is).many in
      let first : s.blank < length before = subst (λ n. s.blank < n) (sym many) s.on_board.0 in
      let second : s.tile < length before = subst (λ n. s.tile < n) (sym many) s.on_board.1 in
      let w : Swapped (λ i. get_or before i 0) (λ i. get_or (swap before s.blank s.tile) i 0) s.blank s.tile = swapped_from_swap before (swap before s.blank s.tile) s.blank s.tile 0 first second refl in
      let same : swap before s.blank s.tile ≡ after =
      ext_get_or 0 (swap before s.blank s.tile) after (length-swap before s.blank s.tile ∙ many ∙ sym many')
      (λ i _. each i (cases_eq i s.blank) (cases_eq i s.tile) w) in
      let whole = state_of_board (cell_count tiles) before (few_cells tiles is) l in
      let there : blank_of before ≡ Some s.blank = blank_is_there (cell_count tiles) before s.blank l first s.blank_was in
      let next : neighbour tiles.rows tiles.cols s.blank action ≡ Some s.tile = is_neighbour tiles.rows tiles.cols s.blank action s.tile (let two : 2 ≤ tiles.cols = is.cols.0 in omega (arith, two)) s.on_board.1 s.beside in
      ap (λ test. if test then slide_on tiles.rows tiles.cols (board_of (cell_count tiles) (board_state before)) action else None) whole.0
      ∙ ap (λ b. slide_on tiles.rows tiles.cols b action) whole.1
      ∙ ap (λ b. slide tiles.rows tiles.cols before b action) there
      ∙ ap (λ o. exchange before s.blank o) next
      ∙ ap (λ b. Some (board_state b, 1)) same
      ∙ ap (λ n. Some (n, 1)) (sym to_is) ∙ ap (λ n. Some (to, n)) (sym unit)
    where
      each : (i : ℕ) → (i ≡ s.blank) ⊎ (i ≢ s.blank) → (i ≡ s.tile) ⊎ (i ≢ s.tile)
          → Swapped (λ i. get_or before i 0) (λ i. get_or (swap before s.blank s.tile) i 0) s.blank s.tile → get_or (swap before s.blank s.tile) i 0 ≡ get_or after i 0
      each i (inl e) other w = ap (λ k. get_or (swap before s.blank s.tile) k 0) e ∙ w.0 ∙ sym s.tile_is ∙ ap (λ k. get_or after k 0) (sym e)
      each i (inr ne) (inl e) w = ap (λ k. get_or (swap before s.blank s.tile) k 0) e ∙ w.1 ∙ s.blank_was ∙ sym s.blank_is ∙ ap (λ k. get_or after k 0) (sym e)
      each i (inr ne) (inr ne') w = w.2 i ne ne' ∙ sym (s.others_stay i ne ne')

pub tiles_slide : TilesSlide
tiles_slide tiles is before board action to cost = (
  λ step.
      let s : IsStep tiles (board_state before) action to cost = step_is tiles (board_state before) action to cost step in
      let again : board_of (cell_count tiles) (board_state before) ≡ before = (state_of_board (cell_count tiles) before (few_cells tiles is) (listed (cell_count tiles) before board)).1 in
      forth tiles is before board action to cost (subst (λ b. Moves tiles b action to cost) again s.slides),
  λ (after, after_is, slides, to_is, unit). back tiles is before board action to cost after after_is slides to_is unit,
)
