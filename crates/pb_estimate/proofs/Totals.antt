-- Each tile stands in one cell of a board, so a sum over the cells of a board is one over its tiles.
use Rattle.std.proofs.Common.{◌≡◌, ℕ, zero, suc, ◌+◌, ◌-◌, ◌*◌, ◌<◌, ◌≤◌, Bool, true, false, not, ◌==◌, List, [], ◌∷◌, length, get_or, nat_lt, if◌then◌else◌, refl, sym, subst, ap, arith, ◌∙◌, ◌⊎◌, inl, inr}
use Rattle.std.proofs.Math.Nat.{zero-mul, one-mul, mul-one}
use Rattle.std.proofs.lemmas.Bool.{and_parts, or_parts, not-true, eqb-true, ltb-true}
use Rattle.std.proofs.lemmas.Bool.Decides.{nat_tests}
use Rattle.std.specs.List.{list_any, list_all}
use Rattle.pb_model.proofs.Callers.{equal_self}
use Rattle.pb_model.specs.declared.row.Estimate.TheVariants.{Cost}
use Rattle.pb_task.specs.Tiles.{cell_count, are_distinct, board_of}
use Rattle.pb_task.proofs.Callers.{Listed, listed, board_in}
use Rattle.pb_estimate.specs.Estimates.{manhattan, place_of, cell_with, way_home, ways_home, tile_way, tile_ways}
use Rattle.pb_estimate.specs.Laws.{EstimatesCountTiles}
use Rattle.pb_estimate.proofs.Ways.{sum_below, ways_are, none, own_cell}

which : (n m : ℕ) → (n ≡ m) ⊎ ((n == m) ≡ false)
which n m = go (n == m) refl where
  go : (test : Bool) → (n == m) ≡ test → (n ≡ m) ⊎ ((n == m) ≡ false)
  go true e = inl (eqb-true n m e)
  go false e = inr e

-- ---- sums

same_sums : (f g : ℕ → ℕ) (n : ℕ) → ((k : ℕ) → k < n → f k ≡ g k) → sum_below f n ≡ sum_below g n
same_sums f g zero same = refl
same_sums f g (suc n) same =
    let rest : sum_below f n ≡ sum_below g n = same_sums f g n (λ k less. same k (omega (arith, less))) in
    let last : f n ≡ g n = same n (omega arith) in
    omega (arith, rest, last)

front : (f : ℕ → ℕ) (n : ℕ) → sum_below f (suc n) ≡ f 0 + sum_below (λ k. f (suc k)) n
front f zero = omega arith
front f (suc n) = let rest : sum_below f (suc n) ≡ f 0 + sum_below (λ k. f (suc k)) n = front f n in omega (arith, rest)

added : (a b h : ℕ → ℕ) (n : ℕ) → sum_below (λ k. (a k + b k) * h k) n ≡ sum_below (λ k. a k * h k) n + sum_below (λ k. b k * h k) n
added a b h zero = refl
added a b h (suc n) =
    let rest : sum_below (λ k. (a k + b k) * h k) n ≡ sum_below (λ k. a k * h k) n + sum_below (λ k. b k * h k) n = added a b h n in omega (arith, rest)

-- one for the number itself, and none for another
abbrev one_at : (number k : ℕ) → ℕ
one_at number k = if number == k then 1 else 0

at_itself : (k : ℕ) → one_at k k ≡ 1
at_itself k = ap (λ test. if test then 1 else 0) (equal_self k)

at_other : (number k : ℕ) → (number == k) ≡ false → one_at number k ≡ 0
at_other number k e = ap (λ test. if test then 1 else 0) e

apart : (number k : ℕ) → k < number → (number == k) ≡ false
apart number k less = grind (arith, nat_tests)

smaller : (number n : ℕ) → number < suc n → (number == n) ≡ false → number < n
smaller number n less e = grind (arith, nat_tests)

one_of : (h : ℕ → ℕ) (number n : ℕ) → number < n → sum_below (λ k. one_at number k * h k) n ≡ h number
one_of h number zero less = absurd (omega arith)
one_of h number (suc n) less = go (which number n) (one_of h number n) where
  go : (number ≡ n) ⊎ ((number == n) ≡ false) → (number < n → sum_below (λ k. one_at number k * h k) n ≡ h number) → sum_below (λ k. one_at number k * h k) (suc n) ≡ h number
  go (inl e) rest =
      let zeros : sum_below (λ k. one_at number k * h k) n ≡ 0 =
      none (λ k. one_at number k * h k) n (λ k k_less. ap (λ m. m * h k) (at_other number k (apart number k (subst (λ m. k < m) (sym e) k_less))) ∙ zero-mul (h k)) in
      let last : one_at number n * h n ≡ h number = ap (λ m. one_at m n * h n) e ∙ ap (λ m. m * h n) (at_itself n) ∙ one-mul (h n) ∙ ap h (sym e) in
      omega (arith, zeros, last)
  go (inr e) rest =
      let before : number < n = smaller number n less e in
      let last : one_at number n * h n ≡ 0 = ap (λ m. m * h n) (at_other number n e) ∙ zero-mul (h n) in
      omega (arith, rest before, last)

-- ---- how often a number stands in a list

abbrev times : (k : ℕ) → List ℕ → ℕ
times k [] = 0
times k (number ∷ numbers) = one_at number k + times k numbers

abbrev total : (h : ℕ → ℕ) → List ℕ → ℕ
total h [] = 0
total h (number ∷ numbers) = h number + total h numbers

by_number : (h : ℕ → ℕ) (n : ℕ) (numbers : List ℕ) → list_all (λ number. nat_lt number n) numbers ≡ true → sum_below (λ k. times k numbers * h k) n ≡ total h numbers
by_number h n [] small = none (λ k. 0 * h k) n (λ k less. zero-mul (h k))
by_number h n (number ∷ numbers) small =
    let two = and_parts (nat_lt number n) (list_all (λ m. nat_lt m n) numbers) small in
    let here : sum_below (λ k. one_at number k * h k) n ≡ h number = one_of h number n (ltb-true number n two.0) in
    let rest : sum_below (λ k. times k numbers * h k) n ≡ total h numbers = by_number h n numbers two.1 in
    added (one_at number) (λ k. times k numbers) h n ∙ ap (λ m. m + sum_below (λ k. times k numbers * h k) n) here ∙ ap (λ m. h number + m) rest

never : (k : ℕ) (numbers : List ℕ) → list_any (λ other. other == k) numbers ≡ false → times k numbers ≡ 0
never k [] e = refl
never k (number ∷ numbers) e =
    let two = or_parts (number == k) (list_any (λ other. other == k) numbers) e in
    let here : one_at number k ≡ 0 = at_other number k two.0 in
    let rest : times k numbers ≡ 0 = never k numbers two.1 in
    omega (arith, here, rest)

once : (k : ℕ) (numbers : List ℕ) → are_distinct numbers ≡ true → times k numbers ≤ 1
once k [] e = omega arith
once k (number ∷ numbers) e = go (which number k) (once k numbers two.1) where
  two : (not (list_any (λ other. other == number) numbers) ≡ true) × (are_distinct numbers ≡ true)
  two = and_parts (not (list_any (λ other. other == number) numbers)) (are_distinct numbers) e

  go : (number ≡ k) ⊎ ((number == k) ≡ false) → times k numbers ≤ 1 → one_at number k + times k numbers ≤ 1
  go (inl same) rest =
      let others : times k numbers ≡ 0 = subst (λ m. times m numbers ≡ 0) same (never number numbers (not-true (list_any (λ other. other == number) numbers) two.0)) in
      let here : one_at number k ≡ 1 = subst (λ m. one_at number m ≡ 1) same (at_itself number) in
      omega (arith, others, here)
  go (inr other) rest = let here : one_at number k ≡ 0 = at_other number k other in omega (arith, here, rest)

at_most_count : (f : ℕ → ℕ) (n : ℕ) → ((k : ℕ) → f k ≤ 1) → sum_below f n ≤ n
at_most_count f zero few = omega arith
at_most_count f (suc n) few = let rest : sum_below f n ≤ n = at_most_count f n few in omega (arith, rest, few n)

all_once : (f : ℕ → ℕ) (n : ℕ) → ((k : ℕ) → f k ≤ 1) → sum_below f n ≡ n → (k : ℕ) → k < n → f k ≡ 1
all_once f zero few full k less = absurd (omega arith)
all_once f (suc n) few full k less = go (which k n) (all_once f n few rest k) where
  rest : sum_below f n ≡ n
  rest = let few_below : sum_below f n ≤ n = at_most_count f n few in omega (arith, few_below, few n, full)

  last : f n ≡ 1
  last = omega (arith, rest, full)

  go : (k ≡ n) ⊎ ((k == n) ≡ false) → (k < n → f k ≡ 1) → f k ≡ 1
  go (inl same) before = ap f same ∙ last
  go (inr other) before = before (smaller k n less other)

-- each number stands once on a board
each_once : (count : ℕ) (board : List ℕ) → Listed count board → (k : ℕ) → k < count → times k board ≡ 1
each_once count board l = all_once (λ k. times k board) count (λ k. once k board l.distinct) full where
  ones : (numbers : List ℕ) → total (λ _. 1) numbers ≡ length numbers
  ones [] = refl
  ones (number ∷ numbers) = let rest : total (λ _. 1) numbers ≡ length numbers = ones numbers in omega (arith, rest)

  full : sum_below (λ k. times k board) count ≡ count
  full =
      same_sums (λ k. times k board) (λ k. times k board * 1) count (λ k less. sym (mul-one (times k board)))
      ∙ by_number (λ _. 1) count board l.small ∙ ones board ∙ l.many

-- ---- cells and tiles

by_cells : (h : ℕ → ℕ) (numbers : List ℕ) → sum_below (λ cell. h (get_or numbers cell 0)) (length numbers) ≡ total h numbers
by_cells h [] = refl
by_cells h (number ∷ numbers) = front (λ cell. h (get_or (number ∷ numbers) cell 0)) (length numbers) ∙ ap (λ m. h number + m) (by_cells h numbers)

module _ (cols : ℕ) (goal board : List ℕ) where
  abbrev of_number : (number : ℕ) → ℕ
  of_number number = if number == 0 then 0 else tile_way cols goal board number

  of_tiles : (number : ℕ) → sum_below of_number (suc number) ≡ tile_ways cols goal board number
  of_tiles zero = refl
  of_tiles (suc number) =
      ap (λ m. m + of_number (suc number)) (of_tiles number)
      ∙ ap (λ test. tile_ways cols goal board number + (if test then 0 else tile_way cols goal board (suc number))) (let more : (suc number == 0) ≡ false = grind (arith, nat_tests) in more)

  in_cell : (count cell : ℕ) → Listed count board → cell < length board → way_home cols goal cell (get_or board cell 0) ≡ of_number (get_or board cell 0)
  in_cell count cell l less =
      ap (λ c. if get_or board cell 0 == 0 then 0 else manhattan (place_of cols c) (place_of cols (cell_with goal (get_or board cell 0)))) (sym (own_cell count board cell l less))

  pub cells_are_tiles : (count : ℕ) → 0 < count → Listed count board → ways_home cols goal board count ≡ tile_ways cols goal board (count - 1)
  cells_are_tiles count some l =
      ways_are cols goal board count
      ∙ same_sums (λ cell. way_home cols goal cell (get_or board cell 0)) (λ cell. of_number (get_or board cell 0)) count
      (λ cell less. in_cell count cell l (subst (λ n. cell < n) (sym l.many) less))
      ∙ ap (sum_below (λ cell. of_number (get_or board cell 0))) (sym l.many)
      ∙ by_cells of_number board
      ∙ sym (by_number of_number count board l.small)
      ∙ same_sums (λ k. times k board * of_number k) of_number count (λ k less. ap (λ m. m * of_number k) (each_once count board l k less) ∙ one-mul (of_number k))
      ∙ ap (sum_below of_number) (let e : count ≡ suc (count - 1) = omega arith in e)
      ∙ of_tiles (count - 1)

pub estimates_count_tiles : EstimatesCountTiles
estimates_count_tiles tiles is state at =
    ap Cost (cells_are_tiles tiles.cols tiles.goal (board_of (cell_count tiles) state) (cell_count tiles) (some_cells tiles.rows tiles.cols is.rows.0 is.cols.0)
    (listed (cell_count tiles) (board_of (cell_count tiles) state) (board_in (cell_count tiles) state at)))
  where
    some_cells : (rows cols : ℕ) → 2 ≤ rows → 2 ≤ cols → 0 < rows * cols
    some_cells rows cols r c = grind arith
