-- The blank and its exchange with another number, in the arithmetic of a board's state.
use Rattle.std.proofs.Common.{lit<, ◌≡◌, ◌≢◌, ℕ, zero, suc, ◌+◌, ◌*◌, ◌/◌, ◌%◌, ◌-◌, ◌^◌, ◌<◌, ◌≤◌, Bool, true, false, not, ◌==◌, IsTrue, None, Some, List, [], ◌∷◌, ◌++◌, length, length-set, get_or, set, nat_lt, cond, refl, sym, subst, ap, arith, ◌∙◌}
use Rattle.std.proofs.lemmas.Bool.{and_parts, eqb-true, eq-eqb, ltb-true, lt-ltb, le-ltb, ne_eqb}
use Rattle.std.proofs.lemmas.List.Edits.{swap_is}
use Rattle.std.proofs.Math.Nat.{mul_comm, mul_assoc, zero-mul, add-mul, mul-le-mul_right, div-mul-le_self, mod-le, mod-lt, mod-eq_of_lt, pow-le-pow_right}
use Rattle.std.specs.Prelude.{swap}
use Rattle.std.specs.List.{list_all, position_or_len}
use Rattle.pb_packed.specs.Bits.{bits_of}
use Rattle.pb_model.specs.Space.{steps_below, successor_list}
use Rattle.pb_task.specs.Tiles.{cell_count, is_board, board_state, board_of, is_board_state, neighbour, slide, blank_of, slide_on, tiles_step, tiles_space, IsTiles}
use Rattle.pb_task.specs.declared.parts.TilesParts.{TilesParts}
use Rattle.pb_task.proofs.Boards.{Listed, listed, is_board_swapped, all_below_more, board_in, power, power_two, number_at, state_again, state_fits, whole, length-board_of}
use Rattle.pb_task.proofs.Sliding.{few_cells, blank_within, blank_at, neighbour_within, step_from}

-- ---- where the blank is

-- how many numbers stand before the blank
abbrev pub before_blank : List ℕ → ℕ
before_blank numbers = position_or_len (λ number. number == 0) numbers

blank_here : (number : ℕ) (numbers : List ℕ) → number ≡ 0 → before_blank (number ∷ numbers) ≡ 0
blank_here number numbers e = ap (λ n. cond (not (n == 0)) (1 + before_blank numbers) 0) e

blank_later : (number : ℕ) (numbers : List ℕ) → number ≢ 0 → before_blank (number ∷ numbers) ≡ 1 + before_blank numbers
blank_later number numbers other =
    ap (λ test. cond (not test) (1 + before_blank numbers) 0) (ne_eqb number 0 other)

pub look_on : (count cell word rest : ℕ) → cell < count → rest % 16 ≢ 0 → before_blank (board_of count word) ≡ cell + before_blank (board_of (count - cell) rest)
    → before_blank (board_of count word) ≡ cell + 1 + before_blank (board_of (count - (cell + 1)) (rest / 16))
look_on count cell word rest less other before =
    let more : count - cell ≡ suc (count - (cell + 1)) = omega arith in
    let step : before_blank (board_of (count - cell) rest) ≡ 1 + before_blank (board_of (count - (cell + 1)) (rest / 16)) =
    ap (λ k. before_blank (board_of k rest)) more ∙ blank_later (rest % 16) (board_of (count - (cell + 1)) (rest / 16)) other in
    omega (arith, before, step)

blank_by : (count cell word : ℕ) (test : Bool) → before_blank (board_of count word) ≡ cell → nat_lt cell count ≡ test → blank_of (board_of count word) ≡ cond test (Some cell) None
blank_by count cell word test is e =
    ap (λ place. cond (nat_lt place (length (board_of count word))) (Some place) None) is
    ∙ ap (λ len. cond (nat_lt cell len) (Some cell) None) (length-board_of count word) ∙ ap (λ t. cond t (Some cell) None) e

pub found : (count cell word rest : ℕ) → cell < count → rest % 16 ≡ 0 → before_blank (board_of count word) ≡ cell + before_blank (board_of (count - cell) rest)
    → Some cell ≡ blank_of (board_of count word)
found count cell word rest less here before =
    let more : count - cell ≡ suc (count - (cell + 1)) = omega arith in
    let step : before_blank (board_of (count - cell) rest) ≡ 0 =
    ap (λ k. before_blank (board_of k rest)) more ∙ blank_here (rest % 16) (board_of (count - (cell + 1)) (rest / 16)) here in
    sym (blank_by count cell word true (omega (arith, before, step)) (lt-ltb cell count less))

pub not_found : (count cell word rest : ℕ) → cell ≤ count → count ≤ cell → before_blank (board_of count word) ≡ cell + before_blank (board_of (count - cell) rest)
    → None ≡ blank_of (board_of count word)
not_found count cell word rest up down before =
    let none : count - cell ≡ 0 = omega arith in
    let all : before_blank (board_of (count - cell) rest) ≡ 0 = ap (λ k. before_blank (board_of k rest)) none in
    sym (blank_by count cell word false (omega (arith, before, all)) (le-ltb cell count down))

-- ---- numbers in their places

-- a number one cell further on
further : (number cell : ℕ) → number * 16 ^ (suc cell) ≡ 16 * (number * 16 ^ cell)
further number cell = ap (λ n. number * n) (power cell) ∙ sym (mul_assoc number (16 ^ cell) 16) ∙ mul_comm (number * 16 ^ cell) 16

-- the number in one cell is replaced
replaced : (board : List ℕ) (cell value : ℕ) → cell < length board
    → board_state (set board cell value) + get_or board cell 0 * 16 ^ cell ≡ board_state board + value * 16 ^ cell
replaced [] cell value less = absurd (omega arith)
replaced (number ∷ board) zero value less = omega arith
replaced (number ∷ board) (suc cell) value less =
    omega (arith, replaced board cell value (omega arith), further (get_or board cell 0) cell, further value cell)

-- a cell that gets another's number leaves the other as it is
copied : (board : List ℕ) (to from : ℕ) → to < length board → get_or (set board to (get_or board from 0)) from 0 ≡ get_or board from 0
copied [] to from less = absurd (omega arith)
copied (number ∷ board) zero zero less = refl
copied (number ∷ board) zero (suc from) less = refl
copied (number ∷ board) (suc to) zero less = refl
copied (number ∷ board) (suc to) (suc from) less = copied board to from (omega arith)

-- the blank and another number change places: the number leaves its cell, and comes to the blank's
pub swapped_state : (board : List ℕ) (blank other : ℕ) → blank < length board → other < length board → get_or board blank 0 ≡ 0
    → board_state (swap board blank other) + get_or board other 0 * 16 ^ other ≡ board_state board + get_or board other 0 * 16 ^ blank
swapped_state board blank other less less' is =
    let number = get_or board other 0 in
    let one = replaced board blank (get_or board other 0) less in
    let long : length (set board blank (get_or board other 0)) ≡ length board = length-set board blank (get_or board other 0) in
    let two = replaced (set board blank (get_or board other 0)) other (get_or board blank 0) (omega (arith, long, less')) in
    let again = copied board blank other less in
    let here : get_or board blank 0 * 16 ^ blank ≡ 0 = ap (λ n. n * 16 ^ blank) is ∙ zero-mul (16 ^ blank) in
    let there : get_or board blank 0 * 16 ^ other ≡ 0 = ap (λ n. n * 16 ^ other) is ∙ zero-mul (16 ^ other) in
    let carried : get_or (set board blank (get_or board other 0)) other 0 * 16 ^ other ≡ get_or board other 0 * 16 ^ other = ap (λ n. n * 16 ^ other) again in
    let swapped : board_state (set (set board blank (get_or board other 0)) other (get_or board blank 0)) ≡ board_state (swap board blank other) =
    ap board_state (swap_is board blank other 0 less less') in
    omega (arith, one, two, here, there, carried, swapped)

-- ---- the same on words

-- a number in its place is within a word
pub number_within : (word cell : ℕ) → word / 2 ^ (4 * cell) % 16 * 2 ^ (4 * cell) ≤ word
number_within word cell =
    let one : word / 2 ^ (4 * cell) % 16 * 2 ^ (4 * cell) ≤ word / 2 ^ (4 * cell) * 2 ^ (4 * cell) = mul-le-mul_right (2 ^ (4 * cell)) (mod-le (word / 2 ^ (4 * cell)) 16) in
    omega (arith, one, div-mul-le_self word (2 ^ (4 * cell)))

-- a number below 16 in one of 16 cells
pub number_fits : (number cell : ℕ) → number < 16 → cell < 16 → number * 2 ^ (4 * cell) < 2 ^ 64
number_fits number cell small less =
    let next : number + 1 ≤ 16 = omega arith in
    let room : (number + 1) * 16 ^ cell ≤ 16 * 16 ^ cell = mul-le-mul_right (16 ^ cell) next in
    let up : 16 ^ (suc cell) ≤ 16 ^ 16 = pow-le-pow_right {n = 16} (omega arith) {i = suc cell} {j = 16} (omega arith) in
    let same : number * 16 ^ cell ≡ number * 2 ^ (4 * cell) = ap (λ n. number * n) (power_two cell) in
    let positive : 0 < 16 ^ cell = pow_positive cell in
    omega (arith, room, up, power cell, same, positive, add-mul number 1 (16 ^ cell)) where
      pow_positive : (k : ℕ) → 0 < 16 ^ k
      pow_positive zero = omega arith
      pow_positive (suc k) = omega (arith, power k, pow_positive k)

-- the word after an exchange
pub exchanged_word : (word count blank other : ℕ) → word < 16 ^ count → blank_of (board_of count word) ≡ Some blank → other < count
    → board_state (swap (board_of count word) blank other) + word / 2 ^ (4 * other) % 16 * 2 ^ (4 * other) ≡ word + word / 2 ^ (4 * other) % 16 * 2 ^ (4 * blank)
exchanged_word word count blank other few is less =
    let long : length (board_of count word) ≡ count = length-board_of count word in
    let first : blank < length (board_of count word) = blank_within (board_of count word) blank is in
    let empty : get_or (board_of count word) blank 0 ≡ 0 = blank_at (board_of count word) blank is in
    let state = swapped_state (board_of count word) blank other first (omega (arith, long, less)) empty in
    let number : get_or (board_of count word) other 0 ≡ word / 2 ^ (4 * other) % 16 = number_at count word other less in
    let leaves : get_or (board_of count word) other 0 * 16 ^ other ≡ word / 2 ^ (4 * other) % 16 * 2 ^ (4 * other) =
    ap (λ n. n * 16 ^ other) number ∙ ap (λ n. word / 2 ^ (4 * other) % 16 * n) (power_two other) in
    let comes : get_or (board_of count word) other 0 * 16 ^ blank ≡ word / 2 ^ (4 * other) % 16 * 2 ^ (4 * blank) =
    ap (λ n. n * 16 ^ blank) number ∙ ap (λ n. word / 2 ^ (4 * other) % 16 * n) (power_two blank) in
    omega (arith, state, leaves, comes, state_again count word few)

pub blank_below : (count word blank : ℕ) → blank_of (board_of count word) ≡ Some blank → blank < count
blank_below count word blank is = subst (λ n. blank < n) (length-board_of count word) (blank_within (board_of count word) blank is)

-- as the shifts are written: none of them loses a bit
pub exchanged_is : (word count blank other : ℕ) → count ≤ 16 → word < 16 ^ count → blank_of (board_of count word) ≡ Some blank → other < count
    → word - word / 2 ^ (4 * other) % 16 * 2 ^ (4 * other) % 2 ^ 64 + word / 2 ^ (4 * other) % 16 * 2 ^ (4 * blank) % 2 ^ 64
    ≡ board_state (swap (board_of count word) blank other)
exchanged_is word count blank other few fits is less =
    let number = word / 2 ^ (4 * other) % 16 in
    let small : word / 2 ^ (4 * other) % 16 < 16 = mod-lt (word / 2 ^ (4 * other)) (lit< tt) in
    let first : blank < 16 = omega (arith, blank_below count word blank is, few) in
    let second : other < 16 = omega (arith, less, few) in
    let leaves : word / 2 ^ (4 * other) % 16 * 2 ^ (4 * other) % 2 ^ 64 ≡ word / 2 ^ (4 * other) % 16 * 2 ^ (4 * other) =
    mod-eq_of_lt (number_fits (word / 2 ^ (4 * other) % 16) other small second) in
    let comes : word / 2 ^ (4 * other) % 16 * 2 ^ (4 * blank) % 2 ^ 64 ≡ word / 2 ^ (4 * other) % 16 * 2 ^ (4 * blank) =
    mod-eq_of_lt (number_fits (word / 2 ^ (4 * other) % 16) blank small first) in
    omega (arith, leaves, comes, number_within word other, exchanged_word word count blank other fits is less)

-- ---- steps of a board's state

-- the state of a board is its lowest 64 bits
pub word_of_state : (count state : ℕ) → count ≤ 16 → IsTrue (is_board_state count state) → bits_of state 0 64 ≡ state
word_of_state count state few e =
    let less : state < 16 ^ count = ltb-true state (16 ^ count) (and_parts (nat_lt state (16 ^ count)) (is_board count (board_of count state)) e).0 in
    let up : 16 ^ count ≤ 16 ^ 16 = pow-le-pow_right {n = 16} (omega arith) {i = count} {j = 16} few in
    whole 16 state (omega (arith, less, up))

pub slide_none : (rows cols : ℕ) (board : List ℕ) (blank action : ℕ) → blank_of board ≡ Some blank → neighbour rows cols blank action ≡ None → None ≡ slide_on rows cols board action
slide_none rows cols board blank action is none = cc

pub slide_some : (rows cols : ℕ) (board : List ℕ) (blank action other : ℕ) → blank_of board ≡ Some blank → neighbour rows cols blank action ≡ Some other
    → Some (board_state (swap board blank other), 1) ≡ slide_on rows cols board action
slide_some rows cols board blank action other is there = cc

-- the board after an exchange fits in a word
pub exchanged_fits : (tiles : TilesParts) → IsTiles tiles → (word blank action other : ℕ) → IsTrue (is_board_state (cell_count tiles) word)
    → blank_of (board_of (cell_count tiles) word) ≡ Some blank → neighbour tiles.rows tiles.cols blank action ≡ Some other
    → board_state (swap (board_of (cell_count tiles) word) blank other) < 2 ^ 64
exchanged_fits tiles is word blank action other state blank_is there =
    let board = board_of (cell_count tiles) word in
    let l : Listed (cell_count tiles) board = listed (cell_count tiles) board (board_in (cell_count tiles) word state) in
    let first : blank < cell_count tiles = subst (λ n. blank < n) (length-board_of (cell_count tiles) word) (blank_within board blank blank_is) in
    let after : Listed (cell_count tiles) (swap board blank other) =
    is_board_swapped (cell_count tiles) board blank other l first (neighbour_within tiles.rows tiles.cols blank action other there) in
    state_fits (swap board blank other) (subst (λ n. n ≤ 16) (sym after.many) (few_cells tiles is)) (all_below_more (cell_count tiles) 16 (swap board blank other) (few_cells tiles is) after.small)

-- a board without a blank has no steps
pub no_steps : (tiles : TilesParts) (state count : ℕ) → IsTrue (is_board_state (cell_count tiles) state) → blank_of (board_of (cell_count tiles) state) ≡ None
    → steps_below (tiles_space tiles) state count ≡ []
no_steps tiles state zero is none = refl
no_steps tiles state (suc action) is none =
    let still : tiles_step tiles state action ≡ None =
    sym (step_from tiles state action (board_of (cell_count tiles) state) is refl)
    ∙ ap (λ blank. slide tiles.rows tiles.cols (board_of (cell_count tiles) state) blank action) none in
    ap (λ before. before ++ successor_list action (tiles_step tiles state action)) (no_steps tiles state action is none)
    ∙ ap (λ step. successor_list action step) still

-- ---- a word against a board

-- a state of other lowest bits than a board's is not the board's
pub not_at : (state word : ℕ) (board : List ℕ) → length board ≤ 16 → list_all (λ number. nat_lt number 16) board ≡ true → word ≡ bits_of state 0 64
    → (word == board_state board) ≡ false → false ≡ (state == board_state board)
not_at state word board few small is off = go (state == board_state board) refl where
  go : (test : Bool) → (state == board_state board) ≡ test → false ≡ (state == board_state board)
  go true e =
      let same : state ≡ board_state board = eqb-true state (board_state board) e in
      let there : word ≡ board_state board = is ∙ ap (λ n. bits_of n 0 64) same ∙ whole 16 (board_state board) (state_fits board few small) in
      let on : (word == board_state board) ≡ true = eq-eqb word (board_state board) there in
      cc
  go false e = sym e
