-- Sliding tiles by the cells of some pieces: each slide has its image at the same cost.
use Rattle.std.proofs.Common.{◌≡◌, ◌≢◌, ℕ, zero, suc, ◌+◌, ◌*◌, ◌/◌, ◌^◌, ◌<◌, ◌≤◌, Bool, true, false, ◌==◌, nat_lt, List, [], ◌∷◌, length, map, Option, None, Some, if◌then◌else◌, get_or, slice_index, refl, sym, ap, ◌∙◌, subst, arith, ◌⊎◌, inl, inr}
use Rattle.std.specs.Prelude.{swap, position, unwrap_or}
use Rattle.std.specs.List.{list_all}
use Rattle.std.proofs.lemmas.Bool.{and_parts, and_from, ltb-true, lt-ltb, eq-eqb, eqb-true, cases_eq, ne_eqb}
use Rattle.std.proofs.lemmas.List.{length-map}
use Rattle.std.proofs.lemmas.List.Quantifiers.{position-Some}
use Rattle.std.proofs.lemmas.List.Edits.{length-swap, swapped_from_swap, Swapped}
use Rattle.pb_model.specs.Space.{Steps, IsProper}
use Rattle.pb_task.specs.declared.parts.TilesParts.{TilesParts}
use Rattle.pb_task.specs.Tiles.{cell_count, board_state, board_of, neighbour, tiles_space, IsTiles}
use Rattle.pb_task.proofs.Callers.{Listed, listed, all_below_more, board_in, state_of_board, few_cells, neighbour_within, Moves, IsStep, step_is, four_moves}
use Rattle.pb_pattern.proofs.Boards.{state_small, board_again, length-board_of, blank_within, swapped, own_cell, has_cell}
use Rattle.pb_pattern.specs.Projection.{IsProjection}
use Rattle.pb_pattern.specs.Projected.{cell_with, cells_from, placing_of, cell_after, placing_after, placing_step, is_placing, placing_space, image_of_board}
use Rattle.pb_pattern.specs.Laws.{TilesProject}

-- ---- cells

-- each of these cells is one of so many
AreCells : (count : ℕ) → List ℕ → Type 0
AreCells count cells = list_all (λ cell. nat_lt cell count) cells ≡ true

cell_small : (board : List ℕ) (number : ℕ) → 0 < length board → cell_with board number < length board
cell_small board number some = go (position (λ other. other == number) board) refl where
  go : (found : Option ℕ) → position (λ other. other == number) board ≡ found → unwrap_or found 0 < length board
  go None e = some
  go (Some cell) e = (position-Some (λ other. other == number) board cell 0 e).0

cells_small : (board : List ℕ) (number many count : ℕ) → 0 < length board → length board ≡ count → AreCells count (cells_from board number many)
unfolding AreCells
cells_small board number zero count some long = refl
cells_small board number (suc many) count some long =
    and_from (nat_lt (cell_with board number) count) (list_all (λ cell. nat_lt cell count) (cells_from board (number + 1) many))
    (lt-ltb (cell_with board number) count (subst (λ n. cell_with board number < n) long (cell_small board number some)))
    (cells_small board (number + 1) many count some long)

length_cells : (board : List ℕ) (number many : ℕ) → length (cells_from board number many) ≡ many
length_cells board number zero = refl
length_cells board number (suc many) = let rest : length (cells_from board (number + 1) many) ≡ many = length_cells board (number + 1) many in omega arith

-- the number of some cells is a placing, which has these cells
record Placed (count many : ℕ) (cells : List ℕ) : Type 0 where
  placing : is_placing count many (board_state cells) ≡ true
  again : board_of many (board_state cells) ≡ cells

placed : (count many : ℕ) (cells : List ℕ) → count ≤ 16 → length cells ≡ many → AreCells count cells → Placed count many cells
unfolding AreCells
placed count many cells few long are =
    let small : list_all (λ cell. nat_lt cell 16) cells ≡ true = all_below_more count 16 cells few are in
    let same : board_of many (board_state cells) ≡ cells = ap (λ n. board_of n (board_state cells)) (sym long) ∙ board_again cells small in
    record {
      placing =
          and_from (nat_lt (board_state cells) (16 ^ many)) (list_all (λ cell. nat_lt cell count) (board_of many (board_state cells)))
          (lt-ltb (board_state cells) (16 ^ many) (subst (λ n. board_state cells < 16 ^ n) long (state_small cells small)))
          (ap (list_all (λ cell. nat_lt cell count)) same ∙ are);
      again = same;
    }

-- ---- a step

pub cell_after_small : (blank other cell count : ℕ) → blank < count → other < count → cell < count → cell_after blank other cell < count
cell_after_small blank other cell count b o c = go (cell == blank) (cell == other) where
  go : (first second : Bool) → (if first then other else (if second then blank else cell)) < count
  go true second = o
  go false true = b
  go false false = c

cells_after_small : (cells : List ℕ) (blank other count : ℕ) → blank < count → other < count → AreCells count cells → AreCells count (map (cell_after blank other) cells)
unfolding AreCells
cells_after_small [] blank other count b o are = refl
cells_after_small (cell ∷ cells) blank other count b o are =
    let two = and_parts (nat_lt cell count) (list_all (λ c. nat_lt c count) cells) are in
    and_from (nat_lt (cell_after blank other cell) count) (list_all (λ c. nat_lt c count) (map (cell_after blank other) cells))
    (lt-ltb (cell_after blank other cell) count (cell_after_small blank other cell count b o (ltb-true cell count two.0)))
    (cells_after_small cells blank other count b o two.1)

-- what a step of the pieces is
record Slid (tiles : TilesParts) (tracked from action to cost : ℕ) : Type 0 where
  from_placing : is_placing (cell_count tiles) (suc tracked) from ≡ true
  other : ℕ
  other_is : neighbour tiles.rows tiles.cols (slice_index (board_of (suc tracked) from) 0) action ≡ Some other
  to_is : to ≡ board_state (map (cell_after (slice_index (board_of (suc tracked) from) 0) other) (board_of (suc tracked) from))
  unit : cost ≡ 1

slid : (tiles : TilesParts) (tracked from action to cost : ℕ) → Steps (placing_space tiles tracked) from action to cost → Slid tiles tracked from action to cost
slid tiles tracked from action to cost step = go (is_placing (cell_count tiles) (suc tracked) from) refl step where
  inner : is_placing (cell_count tiles) (suc tracked) from ≡ true → (other : Option ℕ) → neighbour tiles.rows tiles.cols (slice_index (board_of (suc tracked) from) 0) action ≡ other → placing_after (board_of (suc tracked) from) (slice_index (board_of (suc tracked) from) 0) other ≡ Some (to, cost) → Slid tiles tracked from action to cost
  inner is None at e = cc
  inner is (Some other) at e =
      let same : ◌≡◌ {A = ℕ × ℕ} (board_state (map (cell_after (slice_index (board_of (suc tracked) from) 0) other) (board_of (suc tracked) from)), 1) (to, cost) = cc in
      record { from_placing = is; other = other; other_is = at; to_is = sym (ap (λ (p : ℕ × ℕ). p.0) same); unit = sym (ap (λ (p : ℕ × ℕ). p.1) same) }

  go : (test : Bool) → is_placing (cell_count tiles) (suc tracked) from ≡ test → ◌≡◌ {A = Option (ℕ × ℕ)} (if test then placing_step tiles.rows tiles.cols (board_of (suc tracked) from) action else None) (Some (to, cost)) → Slid tiles tracked from action to cost
  go true is e = inner is (neighbour tiles.rows tiles.cols (slice_index (board_of (suc tracked) from) 0) action) refl e
  go false is e = cc

module _ (tiles : TilesParts) (tracked : ℕ) (is : IsTiles tiles) (few : tracked ≤ 3) where
  Count : ℕ
  Count = cell_count tiles

  some_cells : (rows cols : ℕ) → 2 ≤ rows → 2 ≤ cols → 4 ≤ rows * cols
  some_cells rows cols r c = grind arith

  four_cells : 4 ≤ cell_count tiles
  four_cells = some_cells tiles.rows tiles.cols is.rows.0 is.cols.0

  of_board : (board : List ℕ) → Listed (cell_count tiles) board → Placed (cell_count tiles) (suc tracked) (cells_from board 0 (suc tracked))
  of_board board l =
      placed (cell_count tiles) (suc tracked) (cells_from board 0 (suc tracked)) (few_cells tiles is) (length_cells board 0 (suc tracked))
      (cells_small board 0 (suc tracked) (cell_count tiles) (let many : length board ≡ cell_count tiles = l.many in let four = four_cells in omega arith) l.many)

  -- the cells of a placing
  first_small : (from : ℕ) → is_placing (cell_count tiles) (suc tracked) from ≡ true → AreCells (cell_count tiles) (board_of (suc tracked) from) × (slice_index (board_of (suc tracked) from) 0 < cell_count tiles)
  unfolding AreCells
  first_small from e =
      let are = (and_parts (nat_lt from (16 ^ (suc tracked))) (list_all (λ cell. nat_lt cell (cell_count tiles)) (board_of (suc tracked) from)) e).1 in
      (are, ltb-true (slice_index (board_of (suc tracked) from) 0) (cell_count tiles) (and_parts (nat_lt (slice_index (board_of (suc tracked) from) 0) (cell_count tiles)) (list_all (λ cell. nat_lt cell (cell_count tiles)) (board_of tracked (from / 16))) are).0)

  to_placing : (from action to cost : ℕ) → Slid tiles tracked from action to cost → is_placing (cell_count tiles) (suc tracked) to ≡ true
  to_placing from action to cost s =
      let cells = board_of (suc tracked) from in
      let f = first_small from s.from_placing in
      let p = placed (cell_count tiles) (suc tracked) (map (cell_after (slice_index cells 0) s.other) cells) (few_cells tiles is)
      (length-map cells (cell_after (slice_index cells 0) s.other) ∙ length-board_of (suc tracked) from)
      (cells_after_small cells (slice_index cells 0) s.other (cell_count tiles) f.1 (neighbour_within tiles.rows tiles.cols (slice_index cells 0) action s.other s.other_is) f.0) in
      ap (is_placing (cell_count tiles) (suc tracked)) s.to_is ∙ p.placing

  pub is_proper : IsProper (placing_space tiles tracked) 1
  is_proper = record {
    start = (of_board tiles.start (listed (cell_count tiles) tiles.start is.start)).placing;
    action = λ from action to cost step. (let s = slid tiles tracked from action to cost step in four_moves tiles.rows tiles.cols (slice_index (board_of (suc tracked) from) 0) action s.other s.other_is);
    from_state = λ from action to cost step. (slid tiles tracked from action to cost step).from_placing;
    to_state = λ from action to cost step. to_placing from action to cost (slid tiles tracked from action to cost step);
    positive = λ from action to cost step. (let unit : cost ≡ 1 = (slid tiles tracked from action to cost step).unit in omega arith);
    bounded = λ from action to cost step. (let unit : cost ≡ 1 = (slid tiles tracked from action to cost step).unit in omega arith);
  }

  -- ---- the image of a slide

  module _ (board : List ℕ) (l : Listed (cell_count tiles) board) (blank other : ℕ) (b_less : blank < length board) (o_less : other < length board) (l' : Listed (cell_count tiles) (swap board blank other)) where
    -- a number's cell after the exchange
    moved : (number : ℕ) → number < cell_count tiles → cell_with (swap board blank other) number ≡ cell_after blank other (cell_with board number)
    moved number less = go (cases_eq at.0 blank) (cases_eq at.0 other) where
      at : (cell : ℕ) × (cell < length board) × (get_or board cell 0 ≡ number)
      at = has_cell (cell_count tiles) board l number less

      s : Swapped (λ i. get_or board i 0) (λ i. get_or (swap board blank other) i 0) blank other
      s = swapped_from_swap board (swap board blank other) blank other 0 b_less o_less refl

      was : cell_with board number ≡ at.0
      was = ap (cell_with board) (sym at.2) ∙ own_cell (cell_count tiles) board at.0 l at.1

      now : (cell : ℕ) → cell < length board → get_or (swap board blank other) cell 0 ≡ number → cell_with (swap board blank other) number ≡ cell
      now cell c_less e =
          ap (cell_with (swap board blank other)) (sym e)
          ∙ own_cell (cell_count tiles) (swap board blank other) cell l' (subst (λ n. cell < n) (sym (length-swap board blank other)) c_less)

      go : (at.0 ≡ blank) ⊎ (at.0 ≢ blank) → (at.0 ≡ other) ⊎ (at.0 ≢ other) → cell_with (swap board blank other) number ≡ cell_after blank other (cell_with board number)
      go (inl e) o =
          now other o_less (s.1 ∙ ap (λ c. get_or board c 0) (sym e) ∙ at.2)
          ∙ ap (λ t. if t then other else (if cell_with board number == other then blank else cell_with board number)) (sym (eq-eqb (cell_with board number) blank (was ∙ e)))
      go (inr ne) (inl e) =
          now blank b_less (s.0 ∙ ap (λ c. get_or board c 0) (sym e) ∙ at.2)
          ∙ ap (λ t. if t then blank else cell_with board number) (sym (eq-eqb (cell_with board number) other (was ∙ e)))
          ∙ ap (λ t. if t then other else (if cell_with board number == other then blank else cell_with board number)) (sym (ne_eqb (cell_with board number) blank (λ k. ne (sym was ∙ k))))
      go (inr ne) (inr ne') =
          now at.0 at.1 (s.2 at.0 ne ne' ∙ at.2)
          ∙ sym was
          ∙ ap (λ t. if t then blank else cell_with board number) (sym (ne_eqb (cell_with board number) other (λ k. ne' (sym was ∙ k))))
          ∙ ap (λ t. if t then other else (if cell_with board number == other then blank else cell_with board number)) (sym (ne_eqb (cell_with board number) blank (λ k. ne (sym was ∙ k))))

    all_moved : (number many : ℕ) → number + many ≤ cell_count tiles → cells_from (swap board blank other) number many ≡ map (cell_after blank other) (cells_from board number many)
    all_moved number zero fits = refl
    all_moved number (suc many) fits =
        ap (λ c. c ∷ cells_from (swap board blank other) (number + 1) many) (moved number (omega (arith, fits)))
        ∙ ap (λ cs. cell_after blank other (cell_with board number) ∷ cs) (all_moved (number + 1) many (omega (arith, fits)))

  step_image : (from action to cost : ℕ) → Steps (tiles_space tiles) from action to cost → Steps (placing_space tiles tracked) (image_of_board tiles tracked from) action (image_of_board tiles tracked to) cost
  step_image from action to cost step =
      let s : IsStep tiles from action to cost = step_is tiles from action to cost step in
      let board = board_of (cell_count tiles) from in
      let l : Listed (cell_count tiles) board = listed (cell_count tiles) board (board_in (cell_count tiles) from s.from_state) in
      let m : Moves tiles board action to cost = s.slides in
      let l' : Listed (cell_count tiles) (swap board m.blank m.other) = swapped tiles is board action to cost l m in
      let b_less : m.blank < length board = blank_within board m.blank m.blank_is in
      let o_less : m.other < length board = subst (λ n. m.other < n) (sym l.many) (neighbour_within tiles.rows tiles.cols m.blank action m.other m.other_is) in
      let there : board_of (cell_count tiles) to ≡ swap board m.blank m.other = ap (board_of (cell_count tiles)) m.to_is ∙ (state_of_board (cell_count tiles) (swap board m.blank m.other) (few_cells tiles is) l').1 in
      let p = of_board board l in
      let first : cell_with board 0 ≡ m.blank = ap (λ o. unwrap_or o 0) m.blank_is in
      let after : cells_from (board_of (cell_count tiles) to) 0 (suc tracked) ≡ map (cell_after m.blank m.other) (cells_from board 0 (suc tracked)) =
      ap (λ b. cells_from b 0 (suc tracked)) there ∙ all_moved board l m.blank m.other b_less o_less l' 0 (suc tracked) (let four = four_cells in omega (arith, few)) in
      ap (λ t. if t then placing_step tiles.rows tiles.cols (board_of (suc tracked) (placing_of tracked board)) action else None) p.placing
      ∙ ap (λ cells. placing_step tiles.rows tiles.cols cells action) p.again
      ∙ ap (λ c. placing_after (cells_from board 0 (suc tracked)) c (neighbour tiles.rows tiles.cols c action)) first
      ∙ ap (placing_after (cells_from board 0 (suc tracked)) m.blank) m.other_is
      ∙ ap (λ cells. Some (board_state cells, 1)) (sym after)
      ∙ ap (λ n. Some (image_of_board tiles tracked to, n)) (sym m.unit)

  pub is_projection : IsProjection (tiles_space tiles) (placing_space tiles tracked) (image_of_board tiles tracked)
  is_projection = record {
    states = λ state at. (of_board (board_of (cell_count tiles) state) (listed (cell_count tiles) (board_of (cell_count tiles) state) (board_in (cell_count tiles) state at))).placing;
    steps = λ from action to cost step. (action, step_image from action to cost step);
    goals = λ state at reached.
        eq-eqb (image_of_board tiles tracked state) (placing_of tracked tiles.goal)
        (ap (placing_of tracked) (ap (board_of (cell_count tiles)) (eqb-true state (board_state tiles.goal) reached) ∙ (state_of_board (cell_count tiles) tiles.goal (few_cells tiles is) (listed (cell_count tiles) tiles.goal is.goal)).1));
  }

pub tiles_project : TilesProject
tiles_project tiles tracked is few = (is_proper tiles tracked is few, is_projection tiles tracked is few)
