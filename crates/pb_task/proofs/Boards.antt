-- Boards as lists, and as states.
use Rattle.std.proofs.Common.{◌≡◌, ℕ, zero, suc, ◌+◌, ◌*◌, ◌/◌, ◌%◌, ◌-◌, ◌^◌, ◌<◌, ◌≤◌, Bool, true, false, not, ◌&&◌, ◌||◌, ◌==◌, IsTrue, List, [], ◌∷◌, ◌++◌, length, take, drop, get_or, nat_lt, ◌≢◌, refl, sym, subst, ap, arith, ◌∙◌, length-drop, append_assoc, append-nil, set}
use Rattle.std.proofs.Math.Nat.{div-div-eq-div-mul, pow-suc, pow-le-pow_right, mod-eq_of_lt, mod-lt}
use Rattle.std.proofs.lemmas.Nat.{pow_pos, pow-add}
use Rattle.std.proofs.lemmas.Bool.{and_parts, and_from, eqb-true, eq-eqb, ltb-true, lt-ltb, not-true}
use Rattle.std.proofs.lemmas.Bool.Decides.{Decides-by_and, Decides-ltb}
use Rattle.std.proofs.lemmas.List.{take_more_set}
use Rattle.std.proofs.lemmas.List.Edits.{length-swap}
use Rattle.std.proofs.lemmas.List.Sorted.{IsPermutation-swap, All-permutation}
use Rattle.std.proofs.lemmas.Map.Keys.{IsDistinct-IsPermutation}
use Rattle.std.specs.Prelude.{swap, All}
use Rattle.std.specs.Bool.{Decides}
use Rattle.std.specs.List.{list_any, list_all, IsDistinct, AllByRecursion}
use Rattle.std.specs.List.Sorted.{IsPermutation}
use Rattle.pb_packed.specs.Bits.{bits_of}
use Rattle.pb_model.proofs.Callers.{equal_swap}
use Rattle.pb_task.specs.Laws.{BoardsArePacked}
use Rattle.pb_task.specs.Tiles.{are_distinct, is_board, board_state, board_of, is_board_state}

-- what it means that a list is a board
pub record Listed (count : ℕ) (board : List ℕ) : Type 0 where
  pub many : length board ≡ count
  pub small : list_all (λ number. nat_lt number count) board ≡ true
  pub distinct : are_distinct board ≡ true

pub listed : (count : ℕ) (board : List ℕ) → IsTrue (is_board count board) → Listed count board
listed count board e =
    let one = and_parts (length board == count) (list_all (λ number. nat_lt number count) board && are_distinct board) e in
    let two = and_parts (list_all (λ number. nat_lt number count) board) (are_distinct board) one.1 in
    record { many = eqb-true (length board) count one.0; small = two.0; distinct = two.1 }

pub is_board_by : (count : ℕ) (board : List ℕ) → Listed count board → IsTrue (is_board count board)
is_board_by count board l =
    and_from (length board == count) (list_all (λ number. nat_lt number count) board && are_distinct board) (eq-eqb (length board) count l.many)
    (and_from (list_all (λ number. nat_lt number count) board) (are_distinct board) l.small l.distinct)

-- ---- numbers below a bound

all_decides : (bound : ℕ) (board : List ℕ) → Decides (list_all (λ number. nat_lt number bound) board) (All (λ number. number < bound) board)
all_decides bound board = Decides-by_and (λ number. nat_lt number bound) (λ number. number < bound) (list_all (λ number. nat_lt number bound)) (λ number. Decides-ltb number bound) refl (λ _ _. refl) board

pub all_below_more : (bound more : ℕ) (board : List ℕ) → bound ≤ more → list_all (λ number. nat_lt number bound) board ≡ true → list_all (λ number. nat_lt number more) board ≡ true
all_below_more bound more [] le e = refl
all_below_more bound more (number ∷ board) le e =
    let two = and_parts (nat_lt number bound) (list_all (λ n. nat_lt n bound) board) e in
    let small : number < bound = ltb-true number bound two.0 in
    and_from (nat_lt number more) (list_all (λ n. nat_lt n more) board) (lt-ltb number more (omega arith)) (all_below_more bound more board le two.1)

-- ---- boards after an exchange

pub small_permuted : (bound : ℕ) (board after : List ℕ) → IsPermutation board after → list_all (λ number. nat_lt number bound) board ≡ true → list_all (λ number. nat_lt number bound) after ≡ true
small_permuted bound board after moved e = (all_decides bound after).1 (All-permutation (λ number. number < bound) board after moved ((all_decides bound board).0 e))

one_distinct : (test any : Bool) (P : Type 0) → (any ≡ false → P) → (test || any) ≡ false → (test ≡ false) × P
one_distinct true any P rest e = cc
one_distinct false any P rest e = (refl, rest e)

distinct_by : (number : ℕ) (numbers : List ℕ) → list_any (λ other. other == number) numbers ≡ false → AllByRecursion (λ y. (y == number) ≡ false) numbers
distinct_by number [] e = tt
distinct_by number (other ∷ numbers) e =
    one_distinct (other == number) (list_any (λ o. o == number) numbers) (AllByRecursion (λ y. (y == number) ≡ false) numbers) (distinct_by number numbers) e

distinct_back : (number : ℕ) (numbers : List ℕ) → AllByRecursion (λ y. (y == number) ≡ false) numbers → list_any (λ other. other == number) numbers ≡ false
distinct_back number [] e = refl
distinct_back number (other ∷ numbers) e = rw e.0 (distinct_back number numbers e.1)

pub to_distinct : (numbers : List ℕ) → are_distinct numbers ≡ true → IsDistinct (λ x y. y == x) numbers
unfolding IsDistinct
to_distinct [] e = tt
to_distinct (number ∷ numbers) e =
    let two = and_parts (not (list_any (λ other. other == number) numbers)) (are_distinct numbers) e in
    (distinct_by number numbers (not-true (list_any (λ other. other == number) numbers) two.0), to_distinct numbers two.1)

from_distinct : (numbers : List ℕ) → IsDistinct (λ x y. y == x) numbers → are_distinct numbers ≡ true
unfolding IsDistinct
from_distinct [] e = refl
from_distinct (number ∷ numbers) e =
    and_from (not (list_any (λ other. other == number) numbers)) (are_distinct numbers) (ap not (distinct_back number numbers e.0)) (from_distinct numbers e.1)

pub is_board_swapped : (count : ℕ) (board : List ℕ) (i j : ℕ) → Listed count board → i < count → j < count → Listed count (swap board i j)
is_board_swapped count board i j l less less' =
    let many : length board ≡ count = l.many in
    let moved : IsPermutation board (swap board i j) = IsPermutation-swap board (swap board i j) i j (omega arith) (omega arith) refl in
    record {
      many = length-swap board i j ∙ l.many;
      small = small_permuted count board (swap board i j) moved l.small;
      distinct = from_distinct (swap board i j) (IsDistinct-IsPermutation (λ x y. y == x) (λ x y. equal_swap y x) board (swap board i j) moved (to_distinct board l.distinct));
    }

-- ---- boards as states

pub power : (count : ℕ) → 16 ^ (suc count) ≡ 16 ^ count * 16
power count = pow-suc 16 count

pub power_two : (count : ℕ) → 16 ^ count ≡ 2 ^ (4 * count)
power_two zero = refl
power_two (suc count) = pow-suc 16 count ∙ ap (λ n. n * 16) (power_two count) ∙ more (4 * count) ∙ ap (λ k. 2 ^ k) (four count) where
  more : (k : ℕ) → 2 ^ k * 16 ≡ 2 ^ (suc (suc (suc (suc k))))
  more k =
      let a : 2 ^ (suc k) ≡ 2 ^ k * 2 = pow-suc 2 k in
      let b : 2 ^ (suc (suc k)) ≡ 2 ^ (suc k) * 2 = pow-suc 2 (suc k) in
      let c : 2 ^ (suc (suc (suc k))) ≡ 2 ^ (suc (suc k)) * 2 = pow-suc 2 (suc (suc k)) in
      let d : 2 ^ (suc (suc (suc (suc k)))) ≡ 2 ^ (suc (suc (suc k))) * 2 = pow-suc 2 (suc (suc (suc k))) in
      omega arith

  four : (count : ℕ) → suc (suc (suc (suc (4 * count)))) ≡ 4 * suc count
  four count = omega arith

-- the state of a board has as many digits as the board has numbers
pub state_small : (board : List ℕ) → list_all (λ number. nat_lt number 16) board ≡ true → board_state board < 16 ^ length board
state_small [] e = omega arith
state_small (number ∷ board) e =
    let two = and_parts (nat_lt number 16) (list_all (λ n. nat_lt n 16) board) e in
    let small : number < 16 = ltb-true number 16 two.0 in
    let rest : board_state board < 16 ^ length board = state_small board two.1 in
    let up : 16 ^ (suc (length board)) ≡ 16 ^ length board * 16 = power (length board) in
    omega arith

-- a board is what its state has in its cells
pub board_again : (board : List ℕ) → list_all (λ number. nat_lt number 16) board ≡ true → board_of (length board) (board_state board) ≡ board
board_again [] e = refl
board_again (number ∷ board) e =
    let two = and_parts (nat_lt number 16) (list_all (λ n. nat_lt n 16) board) e in
    let small : number < 16 = ltb-true number 16 two.0 in
    let first : (number + 16 * board_state board) % 16 ≡ number = omega arith in
    let rest : (number + 16 * board_state board) / 16 ≡ board_state board = omega arith in
    ap (λ n. n ∷ board_of (length board) ((number + 16 * board_state board) / 16)) first ∙ ap (λ n. number ∷ board_of (length board) n) rest ∙ ap (λ b. number ∷ b) (board_again board two.1)

pub state_again : (count state : ℕ) → state < 16 ^ count → board_state (board_of count state) ≡ state
state_again zero state less = omega arith
state_again (suc count) state less =
    let up : 16 ^ (suc count) ≡ 16 ^ count * 16 = power count in
    let rest : state / 16 < 16 ^ count = omega arith in
    let again : board_state (board_of count (state / 16)) ≡ state / 16 = state_again count (state / 16) rest in
    omega arith

pub length-board_of : (count state : ℕ) → length (board_of count state) ≡ count
length-board_of zero state = refl
length-board_of (suc count) state = ap suc (length-board_of count (state / 16))

-- the state of a board of at most 16 numbers has 64 bits
pub sixteen : (count : ℕ) → count ≤ 16 → 16 ^ count ≤ 2 ^ 64
sixteen count le = let up : 16 ^ count ≤ 16 ^ 16 = pow-le-pow_right {n = 16} (omega arith) {i = count} {j = 16} le in omega (arith, up)

-- ---- a board's state, one number after another

all_drop : (board : List ℕ) (n : ℕ) → list_all (λ number. nat_lt number 16) board ≡ true → list_all (λ number. nat_lt number 16) (drop n board) ≡ true
all_drop board zero e = e
all_drop [] (suc n) e = refl
all_drop (number ∷ board) (suc n) e = all_drop board n (and_parts (nat_lt number 16) (list_all (λ m. nat_lt m 16) board) e).1

pub small_at : (board : List ℕ) (i : ℕ) → list_all (λ number. nat_lt number 16) board ≡ true → i < length board → get_or board i 0 < 16
small_at [] i e less = absurd (omega arith)
small_at (number ∷ board) zero e less = ltb-true number 16 (and_parts (nat_lt number 16) (list_all (λ m. nat_lt m 16) board) e).0
small_at (number ∷ board) (suc i) e less = small_at board i (and_parts (nat_lt number 16) (list_all (λ m. nat_lt m 16) board) e).1 (omega arith)

-- what follows a number fits in 60 bits
pub rest_fits : (board : List ℕ) (cell : ℕ) → length board ≤ 16 → list_all (λ number. nat_lt number 16) board ≡ true → 0 < cell → board_state (drop cell board) < 2 ^ 60
rest_fits board cell few e some =
    let fit : board_state (drop cell board) < 16 ^ length (drop cell board) = state_small (drop cell board) (all_drop board cell e) in
    let short : length (drop cell board) ≤ 15 = omega (arith, length-drop cell board) in
    let up : 16 ^ length (drop cell board) ≤ 16 ^ 15 = pow-le-pow_right {n = 16} (omega arith) {i = length (drop cell board)} {j = 15} short in
    omega (arith, up, fit)

pub state_fits : (board : List ℕ) → length board ≤ 16 → list_all (λ number. nat_lt number 16) board ≡ true → board_state board < 2 ^ 64
state_fits board few e =
    let fit : board_state board < 16 ^ length board = state_small board e in
    let up : 16 ^ length board ≤ 2 ^ 64 = sixteen (length board) few in
    omega (arith, up, fit)

-- one more number of a board is read
pub one_more : (count cell word rest : ℕ) (cells : List ℕ) → cell < count → cell < length cells → take cell cells ++ board_of (count - cell) rest ≡ board_of count word
    → take (cell + 1) (set cells cell (rest % 16)) ++ board_of (count - (cell + 1)) (rest / 16) ≡ board_of count word
one_more count cell word rest cells less within before =
    ap (λ xs. xs ++ board_of (count - (cell + 1)) (rest / 16)) (take_more_set cells cell (rest % 16) within)
    ∙ append_assoc (take cell cells) (rest % 16 ∷ []) (board_of (count - (cell + 1)) (rest / 16))
    ∙ ap (λ k. take cell cells ++ board_of k rest) (let e : suc (count - (cell + 1)) ≡ count - cell = omega arith in e) ∙ before

-- a word without the numbers of the first cells, and without one more
pub next_digit : (word cell : ℕ) → word / 2 ^ (4 * cell) / 16 ≡ word / 2 ^ (4 * (cell + 1))
next_digit word cell =
    div-div-eq-div-mul word (2 ^ (4 * cell)) 16
    ∙ ap (λ n. word / n) (sym (pow-add 2 (4 * cell) 4) ∙ ap (λ k. 2 ^ k) (let e : 4 * cell + 4 ≡ 4 * (cell + 1) = omega arith in e))

-- all numbers of a board are read
pub all_read : (count cell word rest : ℕ) (cells : List ℕ) → cell ≤ count → count ≤ cell → take cell cells ++ board_of (count - cell) rest ≡ board_of count word → take count cells ≡ board_of count word
all_read count cell word rest cells up down before =
    let same : cell ≡ count = omega arith in
    let none : count - cell ≡ 0 = omega arith in
    ap (λ n. take n cells) (sym same) ∙ sym (append-nil (take cell cells)) ∙ ap (λ n. take cell cells ++ board_of n rest) (sym none) ∙ before

-- ---- states that are boards

-- the bits of a small state are the state
pub whole : (count state : ℕ) → state < 16 ^ count → bits_of state 0 (4 * count) ≡ state
whole count state less =
    let few : state < 2 ^ (4 * count) = subst (λ n. state < n) (power_two count) less in
    let one : state / 1 ≡ state = omega arith in
    ap (λ n. n % 2 ^ (4 * count)) one ∙ mod-eq_of_lt few

first_false : (a b : Bool) → a ≡ false → false ≡ (a && b)
first_false a b e = cc

pub differ : (a b : ℕ) → true ≡ not (a == b) → a ≢ b
differ a b e same = let off : (a == b) ≡ true = eq-eqb a b same in cc

pub agree : (a b : ℕ) → false ≡ not (a == b) → a ≡ b
agree a b e = go (a == b) refl e where
  go : (test : Bool) → (a == b) ≡ test → false ≡ not test → a ≡ b
  go true is e = eqb-true a b is
  go false is e = cc

-- a state that its lowest bits don't make up is no board
pub not_whole : (count state word packed : ℕ) → word ≡ bits_of state 0 (4 * count) → packed ≡ word → packed ≢ state → false ≡ is_board_state count state
not_whole count state word packed is packed_is other = go (nat_lt state (16 ^ count)) refl where
  go : (test : Bool) → nat_lt state (16 ^ count) ≡ test → false ≡ is_board_state count state
  go true less = absurd (other (packed_is ∙ is ∙ whole count state (ltb-true state (16 ^ count) less)))
  go false e = first_false (nat_lt state (16 ^ count)) (is_board count (board_of count state)) e

-- a state that its lowest bits make up is one where it has a board's numbers
pub is_whole : (count state word packed : ℕ) (cells : List ℕ) → word ≡ bits_of state 0 (4 * count) → packed ≡ word → packed ≡ state → cells ≡ board_of count word
    → is_board (length cells) cells ≡ is_board_state count state
is_whole count state word packed cells is packed_is same read =
    let here : state ≡ word = sym same ∙ packed_is in
    let few : state < 16 ^ count = subst (λ n. n < 16 ^ count) (sym (here ∙ is)) (subst (λ m. bits_of state 0 (4 * count) < m) (sym (power_two count)) (mod-lt (state / 2 ^ 0) (pow_pos (4 * count)))) in
    let board : cells ≡ board_of count state = read ∙ ap (board_of count) (sym here) in
    let many : length cells ≡ count = ap length board ∙ length-board_of count state in
    ap (λ n. is_board n cells) many ∙ ap (is_board count) board ∙ ap (λ test. test && is_board count (board_of count state)) (sym (lt-ltb state (16 ^ count) few))

-- the numbers in the cells of a state that is a board
pub cells_of_state : (count state word : ℕ) (cells : List ℕ) → IsTrue (is_board_state count state) → word ≡ bits_of state 0 (4 * count) → cells ≡ board_of count word → cells ≡ board_of count state
cells_of_state count state word cells e is read =
    read ∙ ap (board_of count) (is ∙ whole count state (ltb-true state (16 ^ count) (and_parts (nat_lt state (16 ^ count)) (is_board count (board_of count state)) e).0))

pub board_in : (count state : ℕ) → IsTrue (is_board_state count state) → IsTrue (is_board count (board_of count state))
board_in count state e = (and_parts (nat_lt state (16 ^ count)) (is_board count (board_of count state)) e).1

-- a board's state is one, and its cells have the board's numbers
pub state_of_board : (count : ℕ) (board : List ℕ) → count ≤ 16 → Listed count board → IsTrue (is_board_state count (board_state board)) × (board_of count (board_state board) ≡ board)
state_of_board count board few l =
    let small : list_all (λ number. nat_lt number 16) board ≡ true = all_below_more count 16 board few l.small in
    let again : board_of count (board_state board) ≡ board = ap (λ n. board_of n (board_state board)) (sym l.many) ∙ board_again board small in
    let fit : board_state board < 16 ^ count = subst (λ n. board_state board < 16 ^ n) l.many (state_small board small) in (
      and_from (nat_lt (board_state board) (16 ^ count)) (is_board count (board_of count (board_state board))) (lt-ltb (board_state board) (16 ^ count) fit)
          (subst (λ b. IsTrue (is_board count b)) (sym again) (is_board_by count board l)),
      again,
    )

-- ---- boards and states are one to one

-- a number's bits are those behind the first four of its quotient
bits_behind : (state cell : ℕ) → bits_of state (4 * suc cell) 4 ≡ bits_of (state / 16) (4 * cell) 4
bits_behind state cell =
    ap (λ k. (state / 2 ^ k) % 2 ^ 4) (let e : 4 * suc cell ≡ 4 + 4 * cell = omega arith in e)
    ∙ ap (λ n. (state / n) % 2 ^ 4) (pow-add 2 4 (4 * cell)) ∙ ap (λ n. n % 2 ^ 4) (sym (div-div-eq-div-mul state (2 ^ 4) (2 ^ (4 * cell))))

pub number_at : (count state cell : ℕ) → cell < count → get_or (board_of count state) cell 0 ≡ bits_of state (4 * cell) 4
number_at zero state cell less = absurd (omega arith)
number_at (suc count) state zero less = let one : state / 1 ≡ state = omega arith in ap (λ n. n % 16) (sym one)
number_at (suc count) state (suc cell) less = number_at count (state / 16) cell (omega arith) ∙ sym (bits_behind state cell)

pub boards_are_packed : BoardsArePacked
boards_are_packed count few = (
  λ board is. state_of_board count board few (listed count board is),
  λ state is. (board_in count state is, state_again count state (ltb-true state (16 ^ count) (and_parts (nat_lt state (16 ^ count)) (is_board count (board_of count state)) is).0)),
  number_at count,
)
