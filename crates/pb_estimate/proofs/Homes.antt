-- The table of the numbers' ways to their cells on the goal board.
use Rattle.std.proofs.Common.{◌≡◌, ◌≢◌, ℕ, zero, suc, ◌+◌, ◌*◌, ◌/◌, ◌%◌, ◌^◌, ◌<◌, ◌≤◌, List, get_or, ◌∷◌, if◌then◌else◌, refl, sym, ap, arith, ◌∙◌}
use Rattle.std.proofs.Math.Nat.{mul_assoc, pow-suc}
use Rattle.std.proofs.lemmas.Bool.{ne_eqb}
use Rattle.pb_packed.specs.Bits.{bits_of}
use Rattle.pb_task.specs.Tiles.{board_of}
use Rattle.pb_task.proofs.Callers.{number_at}
use Rattle.pb_estimate.specs.Estimates.{manhattan, place_of, cell_with, way_home, ways_home}
use Rattle.pb_estimate.specs.Tables.{AreWaysHome}

-- ---- the table

pub table_is : (cols : ℕ) (goal ways : List ℕ) → ((place : ℕ) → place < 256 → get_or ways place 0 ≡ way_home cols goal (place / 16) (place % 16)) → AreWaysHome cols goal ways
table_is cols goal ways known cell number cell_less number_less =
    known (16 * cell + number) (omega (arith, cell_less, number_less))
    ∙ ap (λ c. way_home cols goal c ((16 * cell + number) % 16)) (let e : (16 * cell + number) / 16 ≡ cell = omega (arith, number_less) in e)
    ∙ ap (way_home cols goal cell) (let e : (16 * cell + number) % 16 ≡ number = omega (arith, number_less) in e)

-- a tile's way to its cell
pub way_is : (cols cell number home : ℕ) (goal : List ℕ) → number ≢ 0 → home ≡ cell_with goal number → manhattan (place_of cols cell) (place_of cols home) ≡ way_home cols goal cell number
way_is cols cell number home goal tile is =
    ap (λ c. manhattan (place_of cols cell) (place_of cols c)) is
    ∙ ap (λ test. if test then 0 else manhattan (place_of cols cell) (place_of cols (cell_with goal number))) (sym (ne_eqb number 0 tile))

-- ---- the numbers in a state's lowest bits

-- what stands above so many cells doesn't change their numbers
above : (count most more word : ℕ) → count ≤ most → board_of count (more * 16 ^ most + word) ≡ board_of count word
above zero most more word few = refl
above (suc count) zero more word few = absurd (omega (arith, few))
above (suc count) (suc most) more word few =
    let up : more * 16 ^ suc most ≡ more * 16 ^ most * 16 = ap (λ n. more * n) (pow-suc 16 most) ∙ sym (mul_assoc more (16 ^ most) 16) in
    let first : (more * 16 ^ suc most + word) % 16 ≡ word % 16 = omega (arith, up) in
    let rest : (more * 16 ^ suc most + word) / 16 ≡ more * 16 ^ most + word / 16 = omega (arith, up) in
    ap (λ n. n ∷ board_of count ((more * 16 ^ suc most + word) / 16)) first
    ∙ ap (λ n. word % 16 ∷ board_of count n) rest
    ∙ ap (λ board. word % 16 ∷ board) (above count most more (word / 16) (omega (arith, few)))

-- the lowest 64 bits have the numbers of up to 16 cells
low_cells : (count state : ℕ) → count ≤ 16 → board_of count (bits_of state 0 64) ≡ board_of count state
low_cells count state few =
    sym (above count 16 (state / 2 ^ 64) (bits_of state 0 64) few)
    ∙ ap (board_of count) (let whole : state / 2 ^ 64 * 16 ^ 16 + bits_of state 0 64 ≡ state = omega arith in whole)

-- the number in a cell is the lowest digit once those of the cells before are gone
pub digit_is : (count state cell : ℕ) → count ≤ 16 → cell < count → (bits_of state 0 64 / 2 ^ (4 * cell)) % 16 ≡ get_or (board_of count state) cell 0
digit_is count state cell few less = sym (number_at count (bits_of state 0 64) cell less) ∙ ap (λ board. get_or board cell 0) (low_cells count state few)

-- one more cell of a board
pub one_more : (cols count state cell number sum way rest : ℕ) (goal ways : List ℕ) → count ≤ 16 → cell < count → AreWaysHome cols goal ways
    → sum ≡ ways_home cols goal (board_of count state) cell → rest ≡ bits_of state 0 64 / 2 ^ (4 * cell) → number ≡ rest % 16
    → way ≡ get_or ways (16 * cell + number) 0 → sum + way ≡ ways_home cols goal (board_of count state) (cell + 1)
one_more cols count state cell number sum way rest goal ways few less table before rest_is number_is way_is' =
    let small : number < 16 = omega (arith, number_is) in
    ap (λ n. n + way) before
    ∙ ap (λ n. ways_home cols goal (board_of count state) cell + n)
    (way_is' ∙ table cell number (omega (arith, few, less)) small
    ∙ ap (way_home cols goal cell) (number_is ∙ ap (λ n. n % 16) rest_is ∙ digit_is count state cell few less))
    ∙ ap (ways_home cols goal (board_of count state)) (let e : suc cell ≡ cell + 1 = omega arith in e)
