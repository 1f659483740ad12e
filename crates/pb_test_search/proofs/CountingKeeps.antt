-- Each holding, each split and each meeting keeps the rule of the example.
use Rattle.std.proofs.Common.{◌≡◌, ◌≢◌, ℕ, zero, suc, ◌+◌, ◌∙◌, List, [], ◌∷◌, ◌++◌, set, sum, Bool, true, false, MatchBool, sym, refl, ap, arith}
use Rattle.std.proofs.lemmas.List.Sums.{sum_by-cons}
use mathlib.Core.Option.{some, some-injective, some-ne-none}
use lib.ListN.{get_elem?}
use Rattle.pb_test_search.specs.Counting.{up_to, Counts, counted}
use Rattle.pb_turn.proofs.Callers.{sum_set, sum_snoc}

-- a holding: the counter went on by one, or stays
pub holding_keeps : (did : Bool) (x y v pass : ℕ) (xs ys : List ℕ) → y ≡ counted did x → MatchBool did (ys ≡ xs ++ y ∷ []) (ys ≡ xs)
    → (views : List ℕ) → Counts x xs views → get_elem? views pass ≡ some v → Counts y ys (set views pass (counted did v))
holding_keeps true x y v pass xs ys next more views h at = let is : y ≡ suc x = omega (arith, next) in
    (more ∙ (λ i. h.0 i ++ is i ∷ []) ∙ ap up_to (sym is), omega (arith, sum_set (λ n. n) views pass v (v + 1) at, h.1, is))
holding_keeps false x y v pass xs ys next same views h at = (same ∙ h.0 ∙ ap up_to (sym next), omega (arith, sum_set (λ n. n) views pass v v at, h.1, next))

pub split_keeps : (count v pass : ℕ) (history views : List ℕ) → Counts count history views → get_elem? views pass ≡ some v → Counts count history (set views pass v ++ 0 ∷ [])
split_keeps count v pass history views h at = (h.0, omega (arith, sum_set (λ n. n) views pass v v at, sum_snoc (λ n. n) (set views pass v) 0, h.1))

pub meet_keeps : (count v pass w other : ℕ) (history views : List ℕ) → Counts count history views → get_elem? views pass ≡ some v → get_elem? (set views pass (v + w)) other ≡ some w
    → Counts count history (set (set views pass (v + w)) other 0)
meet_keeps count v pass w other history views h at there = (h.0, omega (arith, sum_set (λ n. n) views pass v (v + w) at, sum_set (λ n. n) (set views pass (v + w)) other w 0 there, h.1))

-- where all other views are 0, one view is the sum
sum_alone : (views : List ℕ) (pass v : ℕ) → get_elem? views pass ≡ some v → ((other w : ℕ) → get_elem? views other ≡ some w → other ≢ pass → w ≡ 0) → sum views ≡ v
sum_alone [] pass v at off = absurd (some-ne-none v (sym at))
sum_alone (x ∷ xs) zero v at off = omega (arith, sum_by-cons (λ n. n) x xs, some-injective x v at, sum_none xs (λ j w e. off (suc j) w e (λ n. omega arith)))
  where
    sum_none : (l : List ℕ) → ((j w : ℕ) → get_elem? l j ≡ some w → w ≡ 0) → sum l ≡ 0
    sum_none [] h = refl
    sum_none (y ∷ ys) h = omega (arith, sum_by-cons (λ n. n) y ys, h 0 y refl, sum_none ys (λ j w e. h (suc j) w e))
sum_alone (x ∷ xs) (suc pass) v at off = omega (arith, sum_by-cons (λ n. n) x xs, off 0 x refl (λ n. omega arith), sum_alone xs pass v at (λ j w e n. off (suc j) w e (λ k. n (omega arith))))

-- at the end the counter is what the one pass counted, with its history
pub closed : (count v pass : ℕ) (history : List ℕ) (views : List ℕ) → Counts count history views → get_elem? views pass ≡ some v
    → ((other w : ℕ) → get_elem? views other ≡ some w → other ≢ pass → w ≡ 0) → (count ≡ v) × (history ≡ up_to v)
closed count v pass history views h at off = let is : count ≡ v = sym h.1 ∙ sum_alone views pass v at off in (is, h.0 ∙ ap up_to is)
