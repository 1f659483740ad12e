-- The cells of a board that numbers are in, and how they change when two numbers change places.
use Rattle.std.proofs.Common.{◌≡◌, ◌≢◌, ℕ, ◌+◌, ◌*◌, ◌^◌, ◌<◌, ◌≤◌, Bool, true, false, not, ◌&&◌, ◌||◌, ◌==◌, eqb, IsTrue, None, Some, List, [], ◌∷◌, length, get_or, set, nat_lt, if◌then◌else◌, unwrap_or, refl, sym, subst, ap, arith, ◌∙◌, ◌⊎◌, inl, inr, true≢false}
use Rattle.std.proofs.lemmas.Bool.{cases_eq, cases_lt, lt-ltb, le-ltb}
use Rattle.std.proofs.lemmas.List.{get_or-set_same, get_or-set_other}
use Rattle.std.specs.List.{list_any, list_all, position_or_len, Any, IsDistinct}
use Rattle.std.proofs.lemmas.List.Sums.{position_or_len_is, passes_at_first, fails_before_first}
use Rattle.std.proofs.lemmas.List.Folds.{Any-from_list_any}
use Rattle.std.proofs.lemmas.Map.Keys.{apart_from_distinct, IsDistinct-from_apart}
use Rattle.std.proofs.lemmas.Map.Steps.{length-le_from_distinct_below}
use Rattle.pb_model.proofs.Callers.{equal, equal_self, equal_swap, and_true, by_cases, below}
use Rattle.pb_packed.specs.Bits.{bits_of}
use Rattle.pb_task.specs.Tiles.{are_distinct, is_board, is_board_state, board_of}
use Rattle.pb_task.proofs.Callers.{Listed, to_distinct, whole}
use Rattle.pb_abstract.specs.Placings.{cell_with, IsPlacing, placing_of}
use Rattle.pb_abstract.proofs.Ranks.{placing_same}

-- ---- the first cell that has a number

pub cell_found : (board : List ℕ) (number cell : ℕ) → cell < length board → ((k : ℕ) → k < cell → (get_or board k 0 == number) ≡ false) → get_or board cell 0 ≡ number → cell_with board number ≡ cell
cell_found board number cell less before here =
    let first : position_or_len (λ other. other == number) board ≡ cell =
    position_or_len_is (λ other. other == number) board cell 0 (omega arith) before (λ _. ap (λ n. n == number) here ∙ equal_self number) in
    ap (λ n. unwrap_or (if nat_lt n (length board) then Some n else None) 0) first ∙ ap (λ test. unwrap_or (if test then Some cell else None) 0) (lt-ltb cell (length board) less)

pub cell_missing : (board : List ℕ) (number : ℕ) → ((k : ℕ) → k < length board → (get_or board k 0 == number) ≡ false) → cell_with board number ≡ 0
cell_missing board number none =
    let last : position_or_len (λ other. other == number) board ≡ length board =
    position_or_len_is (λ other. other == number) board (length board) 0 (omega arith) none (λ less. absurd (omega arith)) in
    ap (λ n. unwrap_or (if nat_lt n (length board) then Some n else None) 0) last
    ∙ ap (λ test. unwrap_or (if test then Some (length board) else None) 0) (le-ltb (length board) (length board) (omega arith))

-- ---- boards have each number in one cell

-- a number that is no item of distinct small numbers
more_distinct : (number : ℕ) (board : List ℕ) → are_distinct board ≡ true → list_any (λ other. other == number) board ≡ false → are_distinct (number ∷ board) ≡ true
more_distinct number board e none = ap (λ b. not b && are_distinct board) none ∙ e

all_small : (count number : ℕ) (board : List ℕ) → list_all (λ n. nat_lt n count) board ≡ true → list_any (eqb number) board ≡ true → number < count
all_small count number [] small h = absurd (true≢false (sym h))
all_small count number (other ∷ board) small h = go (eqb number other) refl h (all_small count number board two.1) where
  two : (nat_lt other count ≡ true) × (list_all (λ n. nat_lt n count) board ≡ true)
  two = and_true (nat_lt other count) (list_all (λ n. nat_lt n count) board) small

  go : (test : Bool) → eqb number other ≡ test → (test || list_any (eqb number) board) ≡ true → (list_any (eqb number) board ≡ true → number < count) → number < count
  go true e h rest = subst (λ n. n < count) (sym (equal number other e)) (below other count two.0)
  go false e h rest = rest h

distinct_by_eqb : (xs : List ℕ) → are_distinct xs ≡ true → IsDistinct eqb xs
distinct_by_eqb xs e = IsDistinct-from_apart eqb xs (λ i j d less within. equal_swap (get_or xs i d) (get_or xs j d) ∙ apart_from_distinct (λ x y. y == x) xs i j d (to_distinct xs e) less within)

pub is_on_board : (count number : ℕ) (board : List ℕ) → Listed count board → number < count → list_any (λ other. other == number) board ≡ true
is_on_board count number board l less = by_cases (list_any (λ other. other == number) board) (λ e. e) (λ e. absurd (none e)) where
  none : list_any (λ other. other == number) board ≡ false → ⊥
  none e =
      let distinct : IsDistinct eqb (number ∷ board) = distinct_by_eqb (number ∷ board) (more_distinct number board l.distinct e) in
      let small : list_all (λ n. nat_lt n count) (number ∷ board) ≡ true = ap (λ b. b && list_all (λ n. nat_lt n count) board) (lt-ltb number count less) ∙ l.small in
      let few : length (number ∷ board) ≤ count = length-le_from_distinct_below (number ∷ board) count distinct (λ q h. all_small count q (number ∷ board) small h) in
      let many : length board ≡ count = l.many in
      omega arith

-- a number of a board is in the cell that is told
pub record IsIn (count : ℕ) (board : List ℕ) (number : ℕ) : Type 0 where
  pub within : cell_with board number < count
  pub there : get_or board (cell_with board number) 0 ≡ number

pub is_in : (count number : ℕ) (board : List ℕ) → Listed count board → number < count → IsIn count board number
is_in count number board l less = go (Any-from_list_any (λ other. other == number) board (is_on_board count number board l less)) where
  at : position_or_len (λ other. other == number) board < length board → IsIn count board number
  at within =
      let is : cell_with board number ≡ position_or_len (λ other. other == number) board =
      ap (λ test. unwrap_or (if test then Some (position_or_len (λ other. other == number) board) else None) 0) (lt-ltb (position_or_len (λ other. other == number) board) (length board) within) in
      record {
        within = subst (λ n. n < count) (sym is) (subst (λ n. position_or_len (λ other. other == number) board < n) l.many within);
        there = ap (λ n. get_or board n 0) is ∙ equal (get_or board (position_or_len (λ other. other == number) board) 0) number (passes_at_first (λ other. other == number) board 0 within);
      }

  go : Any (λ x. (x == number) ≡ true) board → IsIn count board number
  go (k, x, k_less, is, e) = which (cases_lt (position_or_len (λ other. other == number) board) (length board)) where
    which : ((position_or_len (λ other. other == number) board < length board) ⊎ (length board ≤ position_or_len (λ other. other == number) board)) → IsIn count board number
    which (inl within) = at within
    which (inr past) = absurd (true≢false (sym (ap (λ n. n == number) is ∙ e) ∙ fails_before_first (λ other. other == number) board k x (omega arith)))

-- a board has a number in one cell alone
pub cell_is : (count number cell : ℕ) (board : List ℕ) → Listed count board → cell < count → get_or board cell 0 ≡ number → cell_with board number ≡ cell
cell_is count number cell board l less here =
    let within : cell < length board = subst (λ n. cell < n) (sym l.many) less in
    cell_found board number cell within
    (λ k k_less. let apart : (get_or board cell 0 == get_or board k 0) ≡ false = apart_from_distinct (λ x y. y == x) board k cell 0 (to_distinct board l.distinct) k_less within in
    equal_swap (get_or board k 0) number ∙ ap (λ n. n == get_or board k 0) (sym here) ∙ apart)
    here

-- two numbers of a board are in two cells
pub cells_differ : (count number other : ℕ) (board : List ℕ) → Listed count board → number < count → other < count → number ≢ other → cell_with board number ≢ cell_with board other
cells_differ count number other board l less less' apart same =
    apart (sym (is_in count number board l less).there ∙ ap (λ n. get_or board n 0) same ∙ (is_in count other board l less').there)

pub is_placing_of : (count : ℕ) (board : List ℕ) → Listed count board → 3 ≤ count → IsPlacing count (placing_of board)
is_placing_of count board l many = record {
  blank = (is_in count 0 board l (omega arith)).within;
  first = (is_in count 1 board l (omega arith)).within;
  second = (is_in count 2 board l (omega arith)).within;
  one = cells_differ count 1 0 board l (omega arith) (omega arith) (λ e. omega arith);
  two = cells_differ count 2 0 board l (omega arith) (omega arith) (λ e. omega arith);
  three = cells_differ count 2 1 board l (omega arith) (omega arith) (λ e. omega arith);
}

-- the lowest bits of a state that is a board are all of it
pub word_is : (count state word : ℕ) → IsTrue (is_board_state count state) → word ≡ bits_of state 0 (4 * count) → word ≡ state
word_is count state word is read = read ∙ whole count state (below state (16 ^ count) (and_true (nat_lt state (16 ^ count)) (is_board count (board_of count state)) is).0)

-- ---- the table of the numbers' cells

-- one more number gets its cell
pub one_more_cell : (count cell number : ℕ) (board cells : List ℕ) → Listed count board → cell < count → number ≡ get_or board cell 0 → number < length cells
    → ((k : ℕ) → k < cell → get_or cells (get_or board k 0) 0 ≡ k) → (k : ℕ) → k < cell + 1 → get_or (set cells number cell) (get_or board k 0) 0 ≡ k
one_more_cell count cell number board cells l less here room known k k_less = go (cases_eq k cell) where
  go : (k ≡ cell) ⊎ (k ≢ cell) → get_or (set cells number cell) (get_or board k 0) 0 ≡ k
  go (inl same) =
      ap (λ n. get_or (set cells number cell) n 0) (ap (λ n. get_or board n 0) same ∙ sym here)
      ∙ get_or-set_same cells number cell 0 room ∙ sym same
  go (inr other) =
      get_or-set_other cells number (get_or board k 0) cell 0
      (λ e. other (sym (cell_is count number k board l (omega (arith, k_less, less)) e) ∙ cell_is count number cell board l less (sym here)))
      ∙ known k (omega (arith, k_less, other))

-- a table that has the cell of what stands in each cell has the cell of each number
pub cells_known : (count number : ℕ) (board cells : List ℕ) → Listed count board → number < count → ((k : ℕ) → k < count → get_or cells (get_or board k 0) 0 ≡ k)
    → get_or cells number 0 ≡ cell_with board number
cells_known count number board cells l less known =
    let at = is_in count number board l less in
    ap (λ n. get_or cells n 0) (sym at.there) ∙ known (cell_with board number) at.within

-- the cells that were read are those of the state's placing
pub placing_read : (count state word blank first second : ℕ) → word ≡ state → blank ≡ cell_with (board_of count word) 0 → first ≡ cell_with (board_of count word) 1 → second ≡ cell_with (board_of count word) 2
    → placing_of (board_of count state) ≡ record { blank = blank; first = first; second = second }
placing_read count state word blank first second whole_word zeroth one two =
    let board = ap (board_of count) (sym whole_word) in
    placing_same (cell_with (board_of count state) 0) (cell_with (board_of count state) 1) (cell_with (board_of count state) 2) blank first second
    (ap (λ b. cell_with b 0) board ∙ sym zeroth) (ap (λ b. cell_with b 1) board ∙ sym one) (ap (λ b. cell_with b 2) board ∙ sym two)
