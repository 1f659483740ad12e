-- The first fault of a board.
use Rattle.std.proofs.Common.{◌≡◌, ◌≢◌, ℕ, zero, suc, ◌+◌, ◌<◌, ◌≤◌, Bool, true, false, ◌==◌, ◌||◌, ◌⊎◌, inl, inr, nat_lt, if◌then◌else◌, Option, None, Some, List, [], ◌∷◌, ◌++◌, length, refl, sym, subst, ap, arith, ◌∙◌, append_assoc, append-nil}
use Rattle.std.proofs.lemmas.Bool.{and_parts, and_from, eqb-true, eq-eqb, both_ways}
use Rattle.std.proofs.lemmas.Bool.Decides.{nat_tests}
use Rattle.std.specs.List.{list_any, list_all, Contains}
use Rattle.pb_task.specs.Tiles.{are_distinct}
use Rattle.pb_tiles.specs.declared.error.TilesError.{TilesError}
use Rattle.pb_tiles.specs.declared.error.TilesError.TheVariants.{Count, Number, Twice}
use Rattle.pb_tiles.specs.Reading.{count_fault, board_fault, first_fault}
use Rattle.pb_tiles.specs.Cases.{AreApart}
use Rattle.pb_tiles.proofs.Filling.{not_before, distinct_more}

-- ---- one fault or another

pub first_case : (one other : Option TilesError) (fault : TilesError) → first_fault one other ≡ Some fault → (one ≡ Some fault) ⊎ ((one ≡ None) × (other ≡ Some fault))
first_case None other fault e = inr (refl, e)
first_case (Some first) other fault e = inl e

pub count_case : (count : ℕ) (board : List ℕ) (fault : TilesError) → count_fault count board ≡ Some fault → (Count (length board) count ≡ fault) × (length board ≢ count)
count_case count board fault e = go (length board == count) refl e where
  go : (test : Bool) → (length board == count) ≡ test → ◌≡◌ {A = Option TilesError} (if test then None else Some (Count (length board) count)) (Some fault)
      → (Count (length board) count ≡ fault) × (length board ≢ count)
  go true is e = cc
  go false is e = ((let same : Count (length board) count ≡ fault = cc in same), λ same. both_ways (length board == count) is (eq-eqb (length board) count same))

pub count_told : (count : ℕ) (board : List ℕ) → length board ≢ count → count_fault count board ≡ Some (Count (length board) count)
count_told count board differs = go (length board == count) refl where
  go : (test : Bool) → (length board == count) ≡ test → ◌≡◌ {A = Option TilesError} (if test then None else Some (Count (length board) count)) (Some (Count (length board) count))
  go true is = absurd (differs (eqb-true (length board) count is))
  go false is = refl

-- ---- a number among others

contains_from : (before : List ℕ) (number : ℕ) → list_any (λ other. other == number) before ≡ true → Contains before number
contains_from [] number e = cc
contains_from (first ∷ before) number e = go (first == number) refl (contains_from before number) e where
  go : (test : Bool) → (first == number) ≡ test → (list_any (λ other. other == number) before ≡ true → Contains before number) → (test || list_any (λ other. other == number) before) ≡ true
      → Contains (first ∷ before) number
  go true is rest e = (0, omega arith, eqb-true first number is)
  go false is rest e = let more = rest e in (suc more.0, (let less : more.0 < length before = more.1 in omega (arith, less)), more.2)

any_from : (before : List ℕ) (number : ℕ) → Contains before number → list_any (λ other. other == number) before ≡ true
any_from [] number (k, less, is) = absurd (omega (arith, less))
any_from (first ∷ before) number (zero, less, is) = ap (λ test. test || list_any (λ other. other == number) before) (eq-eqb first number is)
any_from (first ∷ before) number (suc k, less, is) = go (first == number) (any_from before number (k, (let shorter : k < length before = omega (arith, less) in shorter), is)) where
  go : (test : Bool) → list_any (λ other. other == number) before ≡ true → (test || list_any (λ other. other == number) before) ≡ true
  go true rest = refl
  go false rest = rest

-- ---- numbers that are apart

small_more : (count : ℕ) (before : List ℕ) (number : ℕ) → list_all (λ n. nat_lt n count) before ≡ true → nat_lt number count ≡ true → list_all (λ n. nat_lt n count) (before ++ number ∷ []) ≡ true
small_more count [] number small is = and_from (nat_lt number count) true is refl
small_more count (first ∷ before) number small is =
    let two = and_parts (nat_lt first count) (list_all (λ n. nat_lt n count) before) small in
    and_from (nat_lt first count) (list_all (λ n. nat_lt n count) (before ++ number ∷ [])) two.0 (small_more count before number two.1 is)

small_at : (count : ℕ) (before : List ℕ) (number : ℕ) (behind : List ℕ) → list_all (λ n. nat_lt n count) (before ++ number ∷ behind) ≡ true → nat_lt number count ≡ true
small_at count [] number behind small = (and_parts (nat_lt number count) (list_all (λ n. nat_lt n count) behind) small).0
small_at count (first ∷ before) number behind small = small_at count before number behind (and_parts (nat_lt first count) (list_all (λ n. nat_lt n count) (before ++ number ∷ behind)) small).1

apart_more : (count : ℕ) (before : List ℕ) (number : ℕ) → AreApart count before → nat_lt number count ≡ true → list_any (λ other. other == number) before ≡ false → AreApart count (before ++ number ∷ [])
apart_more count before number apart is fresh =
    let two = and_parts (list_all (λ n. nat_lt n count) before) (are_distinct before) apart in
    and_from (list_all (λ n. nat_lt n count) (before ++ number ∷ [])) (are_distinct (before ++ number ∷ [])) (small_more count before number two.0 is) (distinct_more before number two.1 fresh)

-- ---- the first number that can't stand at its place

pub record IsFirst (count place : ℕ) (before board : List ℕ) (fault : TilesError) : Type 0 where
  pub more : List ℕ
  pub number : ℕ
  pub behind : List ℕ
  pub board_is : board ≡ more ++ number ∷ behind
  pub apart : AreApart count (before ++ more)
  pub fault_is : ((Number (place + length more) ≡ fault) × (count ≤ number)) ⊎ ((Twice number ≡ fault) × (number < count) × Contains (before ++ more) number)

pub board_case : (count place : ℕ) (before board : List ℕ) (fault : TilesError) → AreApart count before → board_fault count place before board ≡ Some fault → IsFirst count place before board fault
board_case count place before [] fault apart e = cc
board_case count place before (number ∷ board) fault apart e =
    go (nat_lt number count) (list_any (λ other. other == number) before) refl refl e
    (λ is fresh rest. board_case count (place + 1) (before ++ number ∷ []) board fault (apart_more count before number apart is fresh) rest)
  where
    here : before ≡ before ++ []
    here = sym (append-nil before)

    go : (small twice : Bool) → nat_lt number count ≡ small → list_any (λ other. other == number) before ≡ twice
        → ◌≡◌ {A = Option TilesError} (if small then (if twice then Some (Twice number) else board_fault count (place + 1) (before ++ number ∷ []) board) else Some (Number place)) (Some fault)
        → (nat_lt number count ≡ true → list_any (λ other. other == number) before ≡ false → board_fault count (place + 1) (before ++ number ∷ []) board ≡ Some fault
        → IsFirst count (place + 1) (before ++ number ∷ []) board fault)
        → IsFirst count place before (number ∷ board) fault
    go false twice is some e rest =
        let same : Number place ≡ fault = cc in
        record {
          more = [];
          number = number;
          behind = board;
          board_is = refl;
          apart = subst (AreApart count) here apart;
          fault_is = inl (ap Number (let at : place + 0 ≡ place = omega arith in at) ∙ same, (let big : count ≤ number = grind (arith, nat_tests) in big));
        }
    go true true is some e rest =
        let same : Twice number ≡ fault = cc in
        record {
          more = [];
          number = number;
          behind = board;
          board_is = refl;
          apart = subst (AreApart count) here apart;
          fault_is = inr (same, (let small : number < count = grind (arith, nat_tests) in small), subst (λ ns. Contains ns number) here (contains_from before number some));
        }
    go true false is some e rest =
        let later : IsFirst count (place + 1) (before ++ number ∷ []) board fault = rest is some e in
        let all : (before ++ number ∷ []) ++ later.more ≡ before ++ number ∷ later.more = append_assoc before (number ∷ []) later.more in
        record {
          more = number ∷ later.more;
          number = later.number;
          behind = later.behind;
          board_is = ap (λ ns. number ∷ ns) later.board_is;
          apart = subst (AreApart count) all later.apart;
          fault_is = moved later.more later.number all later.fault_is;
        }
      where
        moved : (more : List ℕ) (other : ℕ) → (before ++ number ∷ []) ++ more ≡ before ++ number ∷ more
            → ((Number (place + 1 + length more) ≡ fault) × (count ≤ other)) ⊎ ((Twice other ≡ fault) × (other < count) × Contains ((before ++ number ∷ []) ++ more) other)
            → ((Number (place + length (number ∷ more)) ≡ fault) × (count ≤ other)) ⊎ ((Twice other ≡ fault) × (other < count) × Contains (before ++ number ∷ more) other)
        moved more other all (inl (same, big)) = inl (ap Number (let at : place + length (number ∷ more) ≡ place + 1 + length more = omega arith in at) ∙ same, big)
        moved more other all (inr (same, small, has)) = inr (same, small, subst (λ ns. Contains ns other) all has)

-- ---- numbers before it are passed

passed : (count place : ℕ) (before more rest : List ℕ) → AreApart count (before ++ more) → board_fault count place before (more ++ rest) ≡ board_fault count (place + length more) (before ++ more) rest
passed count place before [] rest apart =
    ap (λ n. board_fault count n before rest) (let at : place ≡ place + 0 = omega arith in at) ∙ ap (λ ns. board_fault count (place + 0) ns rest) (sym (append-nil before))
passed count place before (number ∷ more) rest apart =
    let two = and_parts (list_all (λ n. nat_lt n count) (before ++ number ∷ more)) (are_distinct (before ++ number ∷ more)) apart in
    let all : (before ++ number ∷ []) ++ more ≡ before ++ number ∷ more = append_assoc before (number ∷ []) more in
    ap (λ test. if test then (if list_any (λ other. other == number) before then Some (Twice number) else board_fault count (place + 1) (before ++ number ∷ []) (more ++ rest)) else Some (Number place))
    (small_at count before number more two.0)
    ∙ ap (λ test. if test then Some (Twice number) else board_fault count (place + 1) (before ++ number ∷ []) (more ++ rest)) (not_before before more number two.1)
    ∙ passed count (place + 1) (before ++ number ∷ []) more rest (subst (AreApart count) (sym all) apart)
    ∙ ap (λ n. board_fault count n ((before ++ number ∷ []) ++ more) rest) (let at : place + 1 + length more ≡ place + length (number ∷ more) = omega arith in at)
    ∙ ap (λ ns. board_fault count (place + length (number ∷ more)) ns rest) all

pub number_told : (count place : ℕ) (before : List ℕ) (number : ℕ) (behind : List ℕ) → AreApart count before → count ≤ number → board_fault count place [] (before ++ number ∷ behind) ≡ Some (Number (place + length before))
number_told count place before number behind apart big =
    passed count place [] before (number ∷ behind) apart
    ∙ ap (λ test. if test then (if list_any (λ other. other == number) before then Some (Twice number) else board_fault count (place + length before + 1) (before ++ number ∷ []) behind) else Some (Number (place + length before)))
    (let over : nat_lt number count ≡ false = grind (arith, nat_tests) in over)

pub twice_told : (count place : ℕ) (before : List ℕ) (number : ℕ) (behind : List ℕ) → AreApart count before → number < count → Contains before number → board_fault count place [] (before ++ number ∷ behind) ≡ Some (Twice number)
twice_told count place before number behind apart small has =
    passed count place [] before (number ∷ behind) apart
    ∙ ap (λ test. if test then (if list_any (λ other. other == number) before then Some (Twice number) else board_fault count (place + length before + 1) (before ++ number ∷ []) behind) else Some (Number (place + length before)))
    (let under : nat_lt number count ≡ true = grind (arith, nat_tests) in under)
    ∙ ap (λ test. if test then Some (Twice number) else board_fault count (place + length before + 1) (before ++ number ∷ []) behind) (any_from before number has)
