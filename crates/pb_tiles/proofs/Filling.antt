-- Boards, number by number.
use Rattle.std.proofs.Common.{◌≡◌, ℕ, ◌+◌, ◌*◌, ◌≤◌, Bool, true, false, not, ◌==◌, nat_lt, Option, None, Some, List, [], ◌∷◌, ◌++◌, length, if◌then◌else◌, refl, sym, ap, arith, ◌∙◌, append_assoc, append-nil, map-id, zero-add}
use Rattle.std.proofs.lemmas.Bool.{and_parts, and_from, or_parts, or_from, not-true}
use Rattle.std.proofs.lemmas.Bool.Decides.{nat_tests}
use Rattle.std.proofs.lemmas.List.FromFn.{map-range_with_len_more}
use Rattle.std.proofs.Math.Nat.{mul-le-mul_left}
use Rattle.std.specs.List.{list_any, list_all, range_with_len}
use Rattle.pb_model.proofs.Callers.{equal_swap}
use Rattle.pb_task.specs.Tiles.{are_distinct, IsTiles}
use Rattle.pb_task.proofs.Callers.{Listed, is_board_by, all_below_more}
use Rattle.pb_tiles.specs.declared.error.TilesError.{TilesError}
use Rattle.pb_tiles.specs.declared.error.TilesError.TheVariants.{Count, Number, Twice}
use Rattle.pb_tiles.specs.Reading.{count_fault, board_fault, first_fault, boards_fault}

-- one more number from 0 on
pub range_more : (number : ℕ) (numbers : List ℕ) → numbers ≡ range_with_len 0 number → numbers ++ number ∷ [] ≡ range_with_len 0 (number + 1)
range_more number numbers is =
    ap (λ ns. ns ++ number ∷ []) (is ∙ sym (map-id (range_with_len 0 number))) ∙ sym (map-range_with_len_more (λ n. n) 0 number number (zero-add number)) ∙ map-id (range_with_len 0 (number + 1))

-- ---- a number among others

-- a number that is in the middle of a list is not before it, where no number stands twice
pub not_before : (before board : List ℕ) (number : ℕ) → are_distinct (before ++ number ∷ board) ≡ true → list_any (λ other. other == number) before ≡ false
not_before [] board number e = refl
not_before (first ∷ before) board number e =
    let two = and_parts (not (list_any (λ other. other == first) (before ++ number ∷ board))) (are_distinct (before ++ number ∷ board)) e in
    or_from (first == number) (list_any (λ other. other == number) before)
    (equal_swap first number ∙ (passed before board number first (not-true (list_any (λ other. other == first) (before ++ number ∷ board)) two.0)))
    (not_before before board number two.1)
  where
    passed : (before board : List ℕ) (number first : ℕ) → list_any (λ other. other == first) (before ++ number ∷ board) ≡ false → (number == first) ≡ false
    passed [] board number first e = (or_parts (number == first) (list_any (λ other. other == first) board) e).0
    passed (one ∷ before) board number first e = passed before board number first (or_parts (one == first) (list_any (λ other. other == first) (before ++ number ∷ board)) e).1

-- a number that is not before is distinct from those
pub distinct_more : (before : List ℕ) (number : ℕ) → are_distinct before ≡ true → list_any (λ other. other == number) before ≡ false → are_distinct (before ++ number ∷ []) ≡ true
distinct_more [] number e apart = refl
distinct_more (first ∷ before) number e apart =
    let two = and_parts (not (list_any (λ other. other == first) before)) (are_distinct before) e in
    let parts = or_parts (first == number) (list_any (λ other. other == number) before) apart in
    and_from (not (list_any (λ other. other == first) (before ++ number ∷ []))) (are_distinct (before ++ number ∷ []))
    (ap not (one_more before number first (not-true (list_any (λ other. other == first) before) two.0) (equal_swap number first ∙ parts.0)))
    (distinct_more before number two.1 parts.1)
  where
    one_more : (before : List ℕ) (number first : ℕ) → list_any (λ other. other == first) before ≡ false → (number == first) ≡ false → list_any (λ other. other == first) (before ++ number ∷ []) ≡ false
    one_more [] number first e apart = or_from (number == first) false apart refl
    one_more (one ∷ before) number first e apart =
        let parts = or_parts (one == first) (list_any (λ other. other == first) before) e in
        or_from (one == first) (list_any (λ other. other == first) (before ++ number ∷ [])) parts.0 (one_more before number first parts.1 apart)

-- ---- a board without a fault

-- numbers that are small and of which none stands twice have no fault
pub no_fault : (count place : ℕ) (before board : List ℕ) → list_all (λ number. nat_lt number count) board ≡ true → are_distinct (before ++ board) ≡ true → board_fault count place before board ≡ None
no_fault count place before [] small distinct = refl
no_fault count place before (number ∷ board) small distinct =
    let two = and_parts (nat_lt number count) (list_all (λ n. nat_lt n count) board) small in
    ap (λ test. if test then (if list_any (λ other. other == number) before then Some (Twice number) else board_fault count (place + 1) (before ++ number ∷ []) board) else Some (Number place)) two.0
    ∙ ap (λ test. if test then Some (Twice number) else board_fault count (place + 1) (before ++ number ∷ []) board) (not_before before board number distinct)
    ∙ no_fault count (place + 1) (before ++ number ∷ []) board two.1 (ap are_distinct (append_assoc before (number ∷ []) board) ∙ distinct)

pub record Faultless (count : ℕ) (before board : List ℕ) : Type 0 where
  pub small : list_all (λ number. nat_lt number count) board ≡ true
  pub distinct : are_distinct (before ++ board) ≡ true

pub faultless : (count place : ℕ) (before board : List ℕ) → are_distinct before ≡ true → board_fault count place before board ≡ None → Faultless count before board
faultless count place before [] distinct e = record { small = refl; distinct = ap are_distinct (append-nil before) ∙ distinct }
faultless count place before (number ∷ board) distinct e =
    go (nat_lt number count) (list_any (λ other. other == number) before) refl refl e (λ fresh rest. faultless count (place + 1) (before ++ number ∷ []) board (distinct_more before number distinct fresh) rest)
  where
    go : (small twice : Bool) → nat_lt number count ≡ small → list_any (λ other. other == number) before ≡ twice
        → ◌≡◌ {A = Option TilesError} (if small then (if twice then Some (Twice number) else board_fault count (place + 1) (before ++ number ∷ []) board) else Some (Number place)) None
        → (list_any (λ other. other == number) before ≡ false → board_fault count (place + 1) (before ++ number ∷ []) board ≡ None → Faultless count (before ++ number ∷ []) board)
        → Faultless count before (number ∷ board)
    go true true is fresh e rest = cc
    go false twice is fresh e rest = cc
    go true false is fresh e rest =
        let others : Faultless count (before ++ number ∷ []) board = rest fresh e in
        record {
          small = and_from (nat_lt number count) (list_all (λ n. nat_lt n count) board) is others.small;
          distinct = ap are_distinct (sym (append_assoc before (number ∷ []) board)) ∙ others.distinct;
        }

-- ---- both boards

pub counted : (count : ℕ) (board : List ℕ) → count_fault count board ≡ None → length board ≡ count
counted count board e = go (length board == count) refl e where
  go : (test : Bool) → (length board == count) ≡ test → ◌≡◌ {A = Option TilesError} (if test then None else Some (Count (length board) count)) None → length board ≡ count
  go true is e = grind (arith, nat_tests)
  go false is e = cc

pub not_miscounted : (count : ℕ) (board : List ℕ) → length board ≡ count → count_fault count board ≡ None
not_miscounted count board e = ap (λ test. if test then None else Some (Count (length board) count)) (let same : (length board == count) ≡ true = grind (arith, nat_tests) in same)

none_first : (one other : Option TilesError) → first_fault one other ≡ None → (one ≡ None) × (other ≡ None)
none_first None other e = (refl, e)
none_first (Some fault) other e = cc

none_both : (one other : Option TilesError) → one ≡ None → other ≡ None → first_fault one other ≡ None
none_both one other e f = ap (λ o. first_fault o other) e ∙ f

pub boards_are_listed : (count : ℕ) (start goal : List ℕ) → boards_fault count start goal ≡ None → Listed count start × Listed count goal
boards_are_listed count start goal e =
    let one = none_first (count_fault count start) (first_fault (count_fault count goal) (first_fault (board_fault count 2 [] start) (board_fault count (2 + count) [] goal))) e in
    let two = none_first (count_fault count goal) (first_fault (board_fault count 2 [] start) (board_fault count (2 + count) [] goal)) one.1 in
    let three = none_first (board_fault count 2 [] start) (board_fault count (2 + count) [] goal) two.1 in
    let first : Faultless count [] start = faultless count 2 [] start refl three.0 in
    let second : Faultless count [] goal = faultless count (2 + count) [] goal refl three.1 in
    (record { many = counted count start one.0; small = first.small; distinct = first.distinct }, record { many = counted count goal two.0; small = second.small; distinct = second.distinct })

pub listed_have_no_fault : (count : ℕ) (start goal : List ℕ) → Listed count start → Listed count goal → boards_fault count start goal ≡ None
listed_have_no_fault count start goal one two =
    none_both (count_fault count start) (first_fault (count_fault count goal) (first_fault (board_fault count 2 [] start) (board_fault count (2 + count) [] goal))) (not_miscounted count start one.many)
    (none_both (count_fault count goal) (first_fault (board_fault count 2 [] start) (board_fault count (2 + count) [] goal)) (not_miscounted count goal two.many)
    (none_both (board_fault count 2 [] start) (board_fault count (2 + count) [] goal) (no_fault count 2 [] start one.small one.distinct) (no_fault count (2 + count) [] goal two.small two.distinct)))

pub few_cells : (rows cols : ℕ) → rows ≤ 4 → cols ≤ 4 → rows * cols ≤ 16
few_cells rows cols r c = let up : rows * cols ≤ rows * 4 = mul-le-mul_left rows c in omega (arith, up, r)

-- the numbers of both boards are small enough for a state
pub small_boards : (rows cols : ℕ) (start goal : List ℕ) → rows ≤ 4 → cols ≤ 4 → boards_fault (rows * cols) start goal ≡ None
    → (list_all (λ number. nat_lt number 16) start ≡ true) × (list_all (λ number. nat_lt number 16) goal ≡ true)
small_boards rows cols start goal r c e =
    let both_listed = boards_are_listed (rows * cols) start goal e in
    (all_below_more (rows * cols) 16 start (few_cells rows cols r c) both_listed.0.small, all_below_more (rows * cols) 16 goal (few_cells rows cols r c) both_listed.1.small)

pub are_tiles : (rows cols : ℕ) (start goal : List ℕ) → (2 ≤ rows) × (rows ≤ 4) → (2 ≤ cols) × (cols ≤ 4) → boards_fault (rows * cols) start goal ≡ None
    → IsTiles (record { rows = rows; cols = cols; start = start; goal = goal })
are_tiles rows cols start goal r c e =
    let both_listed = boards_are_listed (rows * cols) start goal e in
    record { rows = r; cols = c; start = is_board_by (rows * cols) start both_listed.0; goal = is_board_by (rows * cols) goal both_listed.1 }
