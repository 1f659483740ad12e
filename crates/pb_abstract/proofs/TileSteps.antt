-- The edges of blocks of boards are those that steps on boards make.
use Rattle.std.proofs.Common.{◌≡◌, ◌≢◌, ℕ, ◌<◌, ◌≤◌, Bool, true, false, None, Some, List, get_or, ◌==◌, if◌then◌else◌, unwrap_or, refl, sym, ap, subst, ◌∙◌, arith}
use Rattle.std.specs.Prelude.{swap}
use Rattle.std.proofs.lemmas.Bool.{eqb-false, ne_eqb}
use Rattle.std.proofs.lemmas.List.Edits.{swapped_from_swap, Swapped}
use Rattle.pb_model.specs.Space.{Steps}
use Rattle.pb_model.proofs.Callers.{equal, equal_self}
use Rattle.pb_task.specs.declared.parts.TilesParts.{TilesParts}
use Rattle.pb_task.specs.Tiles.{cell_count, board_state, board_of, neighbour, exchange, slide, blank_of, slide_on, tiles_space, IsTiles}
use Rattle.pb_task.proofs.Callers.{Listed, listed, board_in, is_board_swapped, state_of_board, Moves, IsStep, step_is, few_cells, neighbour_within, blank_is_there}
use Rattle.pb_abstract.specs.declared.placing.Placing.{Placing}
use Rattle.pb_abstract.specs.declared.projection.Projection.{Projection}
use Rattle.pb_abstract.specs.Placings.{cell_with, IsPlacing, placing_of, placing_number, placing_after, tile_after, IsTileEdge}
use Rattle.pb_abstract.proofs.BoardCells.{IsIn, is_in, cell_is, cells_differ, is_placing_of}
use Rattle.pb_abstract.proofs.Ranks.{four_cells, placing_same}

-- ---- two numbers change places

-- where a number is after the numbers in two cells changed places
abbrev pub cell_after : (i j cell : ℕ) → ℕ
cell_after i j cell = if cell == j then i else (if cell == i then j else cell)

module _ (count : ℕ) (board : List ℕ) (l : Listed count board) (i j : ℕ) (first : i < count) (second : j < count) where
  l' : Listed count (swap board i j)
  l' = is_board_swapped count board i j l first second

  swapped : Swapped (λ k. get_or board k 0) (λ k. get_or (swap board i j) k 0) i j
  swapped = swapped_from_swap board (swap board i j) i j 0 (subst (λ n. i < n) (sym l.many) first) (subst (λ n. j < n) (sym l.many) second) refl

  pub cell_swapped : (number : ℕ) → number < count → cell_with (swap board i j) number ≡ cell_after i j (cell_with board number)
  cell_swapped number less = go (cell_with board number == j) (cell_with board number == i) refl refl where
    at : IsIn count board number
    at = is_in count number board l less

    go : (one two : Bool) → (cell_with board number == j) ≡ one → (cell_with board number == i) ≡ two
        → cell_with (swap board i j) number ≡ (if one then i else (if two then j else cell_with board number))
    go true two e f = cell_is count number i (swap board i j) l' first (swapped.0 ∙ ap (λ k. get_or board k 0) (sym (equal (cell_with board number) j e)) ∙ at.there)
    go false true e f = cell_is count number j (swap board i j) l' second (swapped.1 ∙ ap (λ k. get_or board k 0) (sym (equal (cell_with board number) i f)) ∙ at.there)
    go false false e f =
        cell_is count number (cell_with board number) (swap board i j) l' at.within
        (swapped.2 (cell_with board number) (eqb-false (cell_with board number) i f) (eqb-false (cell_with board number) j e) ∙ at.there)

after_itself : (i j : ℕ) → cell_after i j i ≡ j
after_itself i j = go (i == j) refl where
  go : (test : Bool) → (i == j) ≡ test → (if test then i else (if i == i then j else i)) ≡ j
  go true e = equal i j e
  go false e = ap (λ test. if test then j else i) (equal_self i)

after_other : (i j cell : ℕ) → cell ≢ i → cell_after i j cell ≡ tile_after i j cell
after_other i j cell apart = ap (λ test. if cell == j then i else (if test then j else cell)) (ne_eqb cell i apart)

after_elsewhere : (i j cell : ℕ) → cell ≢ i → cell ≢ j → cell_after i j cell ≡ cell
after_elsewhere i j cell a b = after_other i j cell a ∙ ap (λ test. if test then i else cell) (ne_eqb cell j b)

-- the placing after the blank's move
pub placing_moved : (count cell : ℕ) (board : List ℕ) → Listed count board → 3 ≤ count → cell < count → placing_of (swap board (cell_with board 0) cell) ≡ placing_after (placing_of board) cell
placing_moved count cell board l many less =
    let blank : cell_with board 0 < count = (is_in count 0 board l (omega arith)).within in
    let p : IsPlacing count (placing_of board) = is_placing_of count board l many in
    let after : List ℕ = swap board (cell_with board 0) cell in
    placing_same (cell_with after 0) (cell_with after 1) (cell_with after 2) cell (tile_after (cell_with board 0) cell (cell_with board 1)) (tile_after (cell_with board 0) cell (cell_with board 2))
    (cell_swapped count board l (cell_with board 0) cell blank less 0 (omega arith) ∙ after_itself (cell_with board 0) cell)
    (cell_swapped count board l (cell_with board 0) cell blank less 1 (omega arith) ∙ after_other (cell_with board 0) cell (cell_with board 1) p.one)
    (cell_swapped count board l (cell_with board 0) cell blank less 2 (omega arith) ∙ after_other (cell_with board 0) cell (cell_with board 2) p.two)

-- ---- each placing is one of a board

-- a board with a number in a cell, and the numbers that weren't there where they were
record Put (count : ℕ) (board : List ℕ) (number cell : ℕ) : Type 0 where
  after : List ℕ
  listed' : Listed count after
  there : cell_with after number ≡ cell
  others : (other : ℕ) → other < count → other ≢ number → cell_with board other ≢ cell → cell_with after other ≡ cell_with board other

put : (count number cell : ℕ) (board : List ℕ) → Listed count board → number < count → cell < count → Put count board number cell
put count number cell board l less within =
    let at : IsIn count board number = is_in count number board l less in
    record {
      after = swap board (cell_with board number) cell;
      listed' = is_board_swapped count board (cell_with board number) cell l at.within within;
      there = cell_swapped count board l (cell_with board number) cell at.within within number less ∙ after_itself (cell_with board number) cell;
      others = λ other other_less apart elsewhere.
          cell_swapped count board l (cell_with board number) cell at.within within other other_less
          ∙ after_elsewhere (cell_with board number) cell (cell_with board other) (cells_differ count other number board l other_less less apart) elsewhere;
    }

pub record HasPlacing (count : ℕ) (placing : Placing) : Type 0 where
  pub board : List ℕ
  pub listed' : Listed count board
  pub is : placing_of board ≡ placing

-- from some board, one with the placing
pub has_placing : (count : ℕ) (some : List ℕ) (placing : Placing) → Listed count some → 3 ≤ count → IsPlacing count placing → HasPlacing count placing
has_placing count some placing l many p =
    let a : Put count some 0 placing.blank = put count 0 placing.blank some l (omega arith) p.blank in
    let b : Put count a.after 1 placing.first = put count 1 placing.first a.after a.listed' (omega arith) p.first in
    let c : Put count b.after 2 placing.second = put count 2 placing.second b.after b.listed' (omega arith) p.second in
    let blank_b : cell_with b.after 0 ≡ placing.blank = b.others 0 (omega arith) (λ e. omega arith) (λ e. p.one (sym e ∙ a.there)) ∙ a.there in
    let blank_c : cell_with c.after 0 ≡ placing.blank = c.others 0 (omega arith) (λ e. omega arith) (λ e. p.two (sym e ∙ blank_b)) ∙ blank_b in
    let first_c : cell_with c.after 1 ≡ placing.first = c.others 1 (omega arith) (λ e. omega arith) (λ e. p.three (sym e ∙ b.there)) ∙ b.there in
    record {
      board = c.after;
      listed' = c.listed';
      is = placing_same (cell_with c.after 0) (cell_with c.after 1) (cell_with c.after 2) placing.blank placing.first placing.second blank_c first_c c.there;
    }

-- ---- steps

-- the block of a state
abbrev pub tiles_block : TilesParts → Projection → (state : ℕ) → ℕ
tiles_block tiles projection state = placing_number (cell_count tiles) projection (placing_of (board_of (cell_count tiles) state))

abbrev pub TileStep : TilesParts → Projection → (block other : ℕ) → Type 0
TileStep tiles projection block other =
    (from : ℕ) × (action : ℕ) × (to : ℕ) × (cost : ℕ) × Steps (tiles_space tiles) from action to cost × (tiles_block tiles projection from ≡ block) × (tiles_block tiles projection to ≡ other)

-- an edge is a step from a board with its placing
pub edge_step : (tiles : TilesParts) → IsTiles tiles → (projection : Projection) (block other : ℕ) → IsTileEdge tiles projection block other → TileStep tiles projection block other
edge_step tiles is projection block other edge =
    let count = cell_count tiles in
    let many : 4 ≤ count = four_cells tiles is in
    let h : HasPlacing count edge.placing = has_placing count tiles.start edge.placing (listed count tiles.start is.start) (omega (arith, many)) edge.is in
    let blank : cell_with h.board 0 ≡ edge.placing.blank = ap (λ (p : Placing). p.blank) h.is in
    let cell : edge.cell < count = neighbour_within tiles.rows tiles.cols edge.placing.blank edge.action edge.cell edge.beside in
    let at : IsIn count h.board 0 = is_in count 0 h.board h.listed' (omega (arith, many)) in
    let whole = state_of_board count h.board (few_cells tiles is) h.listed' in
    let after : List ℕ = swap h.board (cell_with h.board 0) edge.cell in
    let whole' = state_of_board count after (few_cells tiles is) (is_board_swapped count h.board (cell_with h.board 0) edge.cell h.listed' at.within cell) in
    let there : blank_of h.board ≡ Some (cell_with h.board 0) =
    blank_is_there count h.board (cell_with h.board 0) h.listed' (subst (λ n. cell_with h.board 0 < n) (sym h.listed'.many) at.within) at.there in
    let step : Steps (tiles_space tiles) (board_state h.board) edge.action (board_state after) 1 =
    ap (λ test. if test then slide_on tiles.rows tiles.cols (board_of count (board_state h.board)) edge.action else None) whole.0
    ∙ ap (λ b. slide_on tiles.rows tiles.cols b edge.action) whole.1
    ∙ ap (λ b. slide tiles.rows tiles.cols h.board b edge.action) there
    ∙ ap (λ o. exchange h.board (cell_with h.board 0) o) (ap (λ n. neighbour tiles.rows tiles.cols n edge.action) blank ∙ edge.beside) in (
      board_state h.board,
      edge.action,
      board_state after,
      1,
      step,
      ap (λ b. placing_number count projection (placing_of b)) whole.1 ∙ ap (placing_number count projection) h.is ∙ edge.from,
      ap (λ b. placing_number count projection (placing_of b)) whole'.1
          ∙ ap (placing_number count projection) (placing_moved count edge.cell h.board h.listed' (omega (arith, many)) cell)
          ∙ ap (λ p. placing_number count projection (placing_after p edge.cell)) h.is ∙ edge.to,
    )

-- a step is an edge
pub step_edge : (tiles : TilesParts) → IsTiles tiles → (projection : Projection) (from action to cost : ℕ) → Steps (tiles_space tiles) from action to cost
    → IsTileEdge tiles projection (tiles_block tiles projection from) (tiles_block tiles projection to)
step_edge tiles is projection from action to cost e =
    let count = cell_count tiles in
    let many : 4 ≤ count = four_cells tiles is in
    let s : IsStep tiles from action to cost = step_is tiles from action to cost e in
    let board : List ℕ = board_of count from in
    let l : Listed count board = listed count board (board_in count from s.from_state) in
    let m : Moves tiles board action to cost = s.slides in
    let blank : cell_with board 0 ≡ m.blank = ap (λ o. unwrap_or o 0) m.blank_is in
    let cell : m.other < count = neighbour_within tiles.rows tiles.cols m.blank action m.other m.other_is in
    let at : IsIn count board 0 = is_in count 0 board l (omega (arith, many)) in
    let whole = state_of_board count (swap board (cell_with board 0) m.other) (few_cells tiles is) (is_board_swapped count board (cell_with board 0) m.other l at.within cell) in
    let there : to ≡ board_state (swap board (cell_with board 0) m.other) = m.to_is ∙ ap (λ n. board_state (swap board n m.other)) (sym blank) in
    record {
      placing = placing_of board;
      action = action;
      cell = m.other;
      is = is_placing_of count board l (omega (arith, many));
      beside = ap (λ n. neighbour tiles.rows tiles.cols n action) blank ∙ m.other_is;
      from = refl;
      to = sym (ap (λ n. placing_number count projection (placing_of (board_of count n))) there ∙ ap (λ b. placing_number count projection (placing_of b)) whole.1
          ∙ ap (placing_number count projection) (placing_moved count m.other board l (omega (arith, many)) cell));
    }
