-- Boards of sliding tiles. What isn't passed on by the crates below is stated here again.
use Rattle.std.proofs.Common.{◌≡◌, ℕ, zero, suc, ◌+◌, ◌*◌, ◌/◌, ◌%◌, ◌^◌, ◌<◌, ◌≤◌, Bool, true, false, not, ◌==◌, List, [], ◌∷◌, length, get_or, nat_lt, Some, None, unwrap_or, if◌then◌else◌, refl, sym, subst, ap, arith, ◌∙◌, ◌⊎◌, inl, inr, append_assoc, append-nil, set, take, ◌++◌, ◌-◌}
use Rattle.std.specs.Prelude.{swap}
use Rattle.std.specs.List.{list_any, list_all, position_or_len}
use Rattle.std.proofs.Math.Nat.{pow-suc, zero-mul, one-mul, mul-one}
use Rattle.std.proofs.lemmas.Bool.{and_parts, or_parts, not-true, eqb-true, ltb-true, lt-ltb}
use Rattle.std.proofs.lemmas.List.{take_more_set}
use Rattle.std.proofs.lemmas.Bool.Decides.{nat_tests}
use Rattle.std.proofs.lemmas.List.Quantifiers.{position-Some}
use Rattle.std.proofs.lemmas.List.Sums.{position_or_len_is}
use Rattle.std.proofs.lemmas.Map.Keys.{apart_from_distinct}
use Rattle.pb_model.proofs.Callers.{equal_self, equal_swap}
use Rattle.pb_task.specs.declared.parts.TilesParts.{TilesParts}
use Rattle.pb_task.specs.Tiles.{cell_count, are_distinct, board_state, board_of, blank_of, IsTiles}
use Rattle.pb_task.proofs.Callers.{Listed, is_board_swapped, neighbour_within, Moves, to_distinct}
use Rattle.pb_pattern.specs.Projected.{cell_with}

-- ---- boards as states

-- the state of a board has as many digits as the board has numbers
pub state_small : (board : List ℕ) → list_all (λ number. nat_lt number 16) board ≡ true → board_state board < 16 ^ length board
state_small [] e = omega arith
state_small (number ∷ board) e =
    let two = and_parts (nat_lt number 16) (list_all (λ n. nat_lt n 16) board) e in
    let small : number < 16 = ltb-true number 16 two.0 in
    let rest : board_state board < 16 ^ length board = state_small board two.1 in
    let up : 16 ^ (suc (length board)) ≡ 16 ^ length board * 16 = pow-suc 16 (length board) in
    omega arith

-- a board is what its state has in its cells
pub board_again : (board : List ℕ) → list_all (λ number. nat_lt number 16) board ≡ true → board_of (length board) (board_state board) ≡ board
board_again [] e = refl
board_again (number ∷ board) e =
    let two = and_parts (nat_lt number 16) (list_all (λ n. nat_lt n 16) board) e in
    let small : number < 16 = ltb-true number 16 two.0 in
    let first : (number + 16 * board_state board) % 16 ≡ number = omega arith in
    let rest : (number + 16 * board_state board) / 16 ≡ board_state board = omega arith in
    ap (λ n. n ∷ board_of (length board) ((number + 16 * board_state board) / 16)) first ∙ ap (λ n. number ∷ board_of (length board) n) rest ∙ ap (λ b. number ∷ b) (board_again board two.1)

pub state_again : (count state : ℕ) → state < 16 ^ count → board_state (board_of count state) ≡ state
state_again zero state less = omega arith
state_again (suc count) state less =
    let up : 16 ^ (suc count) ≡ 16 ^ count * 16 = pow-suc 16 count in
    let rest : state / 16 < 16 ^ count = omega arith in
    let again : board_state (board_of count (state / 16)) ≡ state / 16 = state_again count (state / 16) rest in
    omega arith

pub length-board_of : (count state : ℕ) → length (board_of count state) ≡ count
length-board_of zero state = refl
length-board_of (suc count) state = ap suc (length-board_of count (state / 16))

-- ---- a state is read

-- one more number of a board is read
pub one_more : (count cell word rest : ℕ) (cells : List ℕ) → cell < count → cell < length cells → take cell cells ++ board_of (count - cell) rest ≡ board_of count word
    → take (cell + 1) (set cells cell (rest % 16)) ++ board_of (count - (cell + 1)) (rest / 16) ≡ board_of count word
one_more count cell word rest cells less within before =
    ap (λ xs. xs ++ board_of (count - (cell + 1)) (rest / 16)) (take_more_set cells cell (rest % 16) within)
    ∙ append_assoc (take cell cells) (rest % 16 ∷ []) (board_of (count - (cell + 1)) (rest / 16))
    ∙ ap (λ k. take cell cells ++ board_of k rest) (let e : suc (count - (cell + 1)) ≡ count - cell = omega arith in e) ∙ before

-- all numbers of a board are read
pub all_read : (count cell word rest : ℕ) (cells : List ℕ) → cell ≤ count → count ≤ cell → take cell cells ++ board_of (count - cell) rest ≡ board_of count word → take count cells ≡ board_of count word
all_read count cell word rest cells up down before =
    let same : cell ≡ count = omega arith in
    let none : count - cell ≡ 0 = omega arith in
    ap (λ n. take n cells) (sym same) ∙ sym (append-nil (take cell cells)) ∙ ap (λ n. take cell cells ++ board_of n rest) (sym none) ∙ before

-- ---- slides

pub blank_within : (board : List ℕ) (cell : ℕ) → blank_of board ≡ Some cell → cell < length board
blank_within board cell e = (position-Some (λ number. number == 0) board cell 0 e).0

-- a step leads to a board, which is the one before with two numbers exchanged
pub swapped : (tiles : TilesParts) → IsTiles tiles → (board : List ℕ) (action to cost : ℕ) → Listed (cell_count tiles) board → (s : Moves tiles board action to cost)
    → Listed (cell_count tiles) (swap board s.blank s.other)
swapped tiles is board action to cost l s =
    let first : s.blank < length board = blank_within board s.blank s.blank_is in
    let many : length board ≡ cell_count tiles = l.many in
    is_board_swapped (cell_count tiles) board s.blank s.other l (subst (λ n. s.blank < n) many first) (neighbour_within tiles.rows tiles.cols s.blank action s.other s.other_is)

-- ---- each number stands in one cell

-- a number of the board is in its own cell alone
pub own_cell : (count : ℕ) (board : List ℕ) (cell : ℕ) → Listed count board → cell < length board → cell_with board (get_or board cell 0) ≡ cell
own_cell count board cell l less =
    let first : position_or_len (λ number. number == get_or board cell 0) board ≡ cell = position_or_len_is (λ number. number == get_or board cell 0) board cell 0 (omega arith)
    (λ k k_less. equal_swap (get_or board k 0) (get_or board cell 0) ∙ apart_from_distinct (λ x y. y == x) board k cell 0 (to_distinct board l.distinct) k_less less)
    (λ _. equal_self (get_or board cell 0)) in
    ap (λ n. unwrap_or (if nat_lt n (length board) then Some n else None) 0) first ∙ ap (λ test. unwrap_or (if test then Some cell else None) 0) (lt-ltb cell (length board) less)

abbrev sum_below : (ways : ℕ → ℕ) → (count : ℕ) → ℕ
sum_below ways zero = 0
sum_below ways (suc cell) = sum_below ways cell + ways cell

none : (ways : ℕ → ℕ) (count : ℕ) → ((cell : ℕ) → cell < count → ways cell ≡ 0) → sum_below ways count ≡ 0
none ways zero zeros = refl
none ways (suc cell) zeros =
    let rest : sum_below ways cell ≡ 0 = none ways cell (λ k less. zeros k (omega (arith, less))) in
    let last : ways cell ≡ 0 = zeros cell (omega arith) in
    omega (arith, rest, last)

which : (n m : ℕ) → (n ≡ m) ⊎ ((n == m) ≡ false)
which n m = go (n == m) refl where
  go : (test : Bool) → (n == m) ≡ test → (n ≡ m) ⊎ ((n == m) ≡ false)
  go true e = inl (eqb-true n m e)
  go false e = inr e

same_sums : (f g : ℕ → ℕ) (n : ℕ) → ((k : ℕ) → k < n → f k ≡ g k) → sum_below f n ≡ sum_below g n
same_sums f g zero same = refl
same_sums f g (suc n) same =
    let rest : sum_below f n ≡ sum_below g n = same_sums f g n (λ k less. same k (omega (arith, less))) in
    let last : f n ≡ g n = same n (omega arith) in
    omega (arith, rest, last)

added : (a b h : ℕ → ℕ) (n : ℕ) → sum_below (λ k. (a k + b k) * h k) n ≡ sum_below (λ k. a k * h k) n + sum_below (λ k. b k * h k) n
added a b h zero = refl
added a b h (suc n) =
    let rest : sum_below (λ k. (a k + b k) * h k) n ≡ sum_below (λ k. a k * h k) n + sum_below (λ k. b k * h k) n = added a b h n in omega (arith, rest)

-- one for the number itself, and none for another
abbrev one_at : (number k : ℕ) → ℕ
one_at number k = if number == k then 1 else 0

at_itself : (k : ℕ) → one_at k k ≡ 1
at_itself k = ap (λ test. if test then 1 else 0) (equal_self k)

at_other : (number k : ℕ) → (number == k) ≡ false → one_at number k ≡ 0
at_other number k e = ap (λ test. if test then 1 else 0) e

apart : (number k : ℕ) → k < number → (number == k) ≡ false
apart number k less = grind (arith, nat_tests)

smaller : (number n : ℕ) → number < suc n → (number == n) ≡ false → number < n
smaller number n less e = grind (arith, nat_tests)

one_of : (h : ℕ → ℕ) (number n : ℕ) → number < n → sum_below (λ k. one_at number k * h k) n ≡ h number
one_of h number zero less = absurd (omega arith)
one_of h number (suc n) less = go (which number n) (one_of h number n) where
  go : (number ≡ n) ⊎ ((number == n) ≡ false) → (number < n → sum_below (λ k. one_at number k * h k) n ≡ h number) → sum_below (λ k. one_at number k * h k) (suc n) ≡ h number
  go (inl e) rest =
      let zeros : sum_below (λ k. one_at number k * h k) n ≡ 0 =
      none (λ k. one_at number k * h k) n (λ k k_less. ap (λ m. m * h k) (at_other number k (apart number k (subst (λ m. k < m) (sym e) k_less))) ∙ zero-mul (h k)) in
      let last : one_at number n * h n ≡ h number = ap (λ m. one_at m n * h n) e ∙ ap (λ m. m * h n) (at_itself n) ∙ one-mul (h n) ∙ ap h (sym e) in
      omega (arith, zeros, last)
  go (inr e) rest =
      let before : number < n = smaller number n less e in
      let last : one_at number n * h n ≡ 0 = ap (λ m. m * h n) (at_other number n e) ∙ zero-mul (h n) in
      omega (arith, rest before, last)

abbrev times : (k : ℕ) → List ℕ → ℕ
times k [] = 0
times k (number ∷ numbers) = one_at number k + times k numbers

abbrev total : (h : ℕ → ℕ) → List ℕ → ℕ
total h [] = 0
total h (number ∷ numbers) = h number + total h numbers

by_number : (h : ℕ → ℕ) (n : ℕ) (numbers : List ℕ) → list_all (λ number. nat_lt number n) numbers ≡ true → sum_below (λ k. times k numbers * h k) n ≡ total h numbers
by_number h n [] small = none (λ k. 0 * h k) n (λ k less. zero-mul (h k))
by_number h n (number ∷ numbers) small =
    let two = and_parts (nat_lt number n) (list_all (λ m. nat_lt m n) numbers) small in
    let here : sum_below (λ k. one_at number k * h k) n ≡ h number = one_of h number n (ltb-true number n two.0) in
    let rest : sum_below (λ k. times k numbers * h k) n ≡ total h numbers = by_number h n numbers two.1 in
    added (one_at number) (λ k. times k numbers) h n ∙ ap (λ m. m + sum_below (λ k. times k numbers * h k) n) here ∙ ap (λ m. h number + m) rest

never : (k : ℕ) (numbers : List ℕ) → list_any (λ other. other == k) numbers ≡ false → times k numbers ≡ 0
never k [] e = refl
never k (number ∷ numbers) e =
    let two = or_parts (number == k) (list_any (λ other. other == k) numbers) e in
    let here : one_at number k ≡ 0 = at_other number k two.0 in
    let rest : times k numbers ≡ 0 = never k numbers two.1 in
    omega (arith, here, rest)

once : (k : ℕ) (numbers : List ℕ) → are_distinct numbers ≡ true → times k numbers ≤ 1
once k [] e = omega arith
once k (number ∷ numbers) e = go (which number k) (once k numbers two.1) where
  two : (not (list_any (λ other. other == number) numbers) ≡ true) × (are_distinct numbers ≡ true)
  two = and_parts (not (list_any (λ other. other == number) numbers)) (are_distinct numbers) e

  go : (number ≡ k) ⊎ ((number == k) ≡ false) → times k numbers ≤ 1 → one_at number k + times k numbers ≤ 1
  go (inl same) rest =
      let others : times k numbers ≡ 0 = subst (λ m. times m numbers ≡ 0) same (never number numbers (not-true (list_any (λ other. other == number) numbers) two.0)) in
      let here : one_at number k ≡ 1 = subst (λ m. one_at number m ≡ 1) same (at_itself number) in
      omega (arith, others, here)
  go (inr other) rest = let here : one_at number k ≡ 0 = at_other number k other in omega (arith, here, rest)

at_most_count : (f : ℕ → ℕ) (n : ℕ) → ((k : ℕ) → f k ≤ 1) → sum_below f n ≤ n
at_most_count f zero few = omega arith
at_most_count f (suc n) few = let rest : sum_below f n ≤ n = at_most_count f n few in omega (arith, rest, few n)

all_once : (f : ℕ → ℕ) (n : ℕ) → ((k : ℕ) → f k ≤ 1) → sum_below f n ≡ n → (k : ℕ) → k < n → f k ≡ 1
all_once f zero few full k less = absurd (omega arith)
all_once f (suc n) few full k less = go (which k n) (all_once f n few rest k) where
  rest : sum_below f n ≡ n
  rest = let few_below : sum_below f n ≤ n = at_most_count f n few in omega (arith, few_below, few n, full)

  last : f n ≡ 1
  last = omega (arith, rest, full)

  go : (k ≡ n) ⊎ ((k == n) ≡ false) → (k < n → f k ≡ 1) → f k ≡ 1
  go (inl same) before = ap f same ∙ last
  go (inr other) before = before (smaller k n less other)

-- each number stands once on a board
each_once : (count : ℕ) (board : List ℕ) → Listed count board → (k : ℕ) → k < count → times k board ≡ 1
each_once count board l = all_once (λ k. times k board) count (λ k. once k board l.distinct) full where
  ones : (numbers : List ℕ) → total (λ _. 1) numbers ≡ length numbers
  ones [] = refl
  ones (number ∷ numbers) = let rest : total (λ _. 1) numbers ≡ length numbers = ones numbers in omega (arith, rest)

  full : sum_below (λ k. times k board) count ≡ count
  full =
      same_sums (λ k. times k board) (λ k. times k board * 1) count (λ k less. sym (mul-one (times k board)))
      ∙ by_number (λ _. 1) count board l.small ∙ ones board ∙ l.many

-- what stands at least once has a cell
stands : (k : ℕ) (numbers : List ℕ) → 1 ≤ times k numbers → (cell : ℕ) × (cell < length numbers) × (get_or numbers cell 0 ≡ k)
stands k [] e = absurd (omega arith)
stands k (number ∷ numbers) e = go (which number k) (stands k numbers) where
  go : (number ≡ k) ⊎ ((number == k) ≡ false) → (1 ≤ times k numbers → (cell : ℕ) × (cell < length numbers) × (get_or numbers cell 0 ≡ k)) → (cell : ℕ) × (cell < length (number ∷ numbers)) × (get_or (number ∷ numbers) cell 0 ≡ k)
  go (inl same) rest = (0, omega arith, same)
  go (inr other) rest =
      let here : one_at number k ≡ 0 = at_other number k other in
      let r = rest (omega (arith, here)) in
      (suc r.0, (let less : r.0 < length numbers = r.1 in omega arith), r.2)

-- each number of a board has a cell
pub has_cell : (count : ℕ) (board : List ℕ) → Listed count board → (k : ℕ) → k < count → (cell : ℕ) × (cell < length board) × (get_or board cell 0 ≡ k)
has_cell count board l k less = stands k board (let one : times k board ≡ 1 = each_once count board l k less in omega arith)
