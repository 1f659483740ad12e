-- More steps up than there are types change nothing: with each step further types come to one, until none does.
use Rattle.std.proofs.Common.{◌≡◌, ◌⊎◌, ◌<◌, ◌≤◌, ◌+◌, ℕ, zero, suc, Bool, true, false, ◌||◌, nat_eq, nat_lt, List, length, get_or, inl, inr, refl, sym, ap, ◌∙◌, arith}
use Rattle.std.proofs.lemmas.Bool.{or_left}
use Rattle.std.proofs.Math.Bool.{or_self}
use Rattle.std.proofs.lemmas.Bool.Decides.{nat_tests}
use Rattle.std.proofs.lemmas.List.{get_or_past}
use Rattle.pb_lifted.specs.Tree.{comes_to}
use Rattle.pb_lifted.specs.WaysUp.{MoreStepsOfNumbersChangeNothing}
use Rattle.pb_lifted.proofs.Counting.{count_below, count_bounded, Implies, count_same}

-- above the root there is the root alone
root_is : (parents : List ℕ) (n j : ℕ) → get_or parents 0 0 ≡ 0 → comes_to parents n 0 j ≡ nat_eq 0 j
root_is parents zero j root = refl
root_is parents (suc n) j root =
    ap (λ i. nat_eq 0 j || comes_to parents n i j) root ∙ ap (λ b. nat_eq 0 j || b) (root_is parents n j root) ∙ or_self (nat_eq 0 j)

-- behind the end there is the root above
outside_is : (parents : List ℕ) (n i j : ℕ) → get_or parents 0 0 ≡ 0 → length parents ≤ i → comes_to parents (suc n) i j ≡ (nat_eq i j || nat_eq 0 j)
outside_is parents n i j root past =
    ap (λ k. nat_eq i j || comes_to parents n k j) (get_or_past parents i 0 past) ∙ ap (λ b. nat_eq i j || b) (root_is parents n j root)

one_more : (parents : List ℕ) (n i j : ℕ) → comes_to parents n i j ≡ true → comes_to parents (suc n) i j ≡ true
one_more parents zero i j h = or_left (nat_eq i j) (nat_eq (get_or parents i 0) j) h
one_more parents (suc n) i j h = at (one_more parents n (get_or parents i 0) j) (nat_eq i j) h
  where
    at : (comes_to parents n (get_or parents i 0) j ≡ true → comes_to parents (suc n) (get_or parents i 0) j ≡ true) → (b : Bool)
        → (b || comes_to parents n (get_or parents i 0) j) ≡ true → (b || comes_to parents (suc n) (get_or parents i 0) j) ≡ true
    at rest true h = refl
    at rest false h = rest h

-- one step more changes nothing
abbrev pub Still : List ℕ → ℕ → ℕ → Type 0
Still parents j n = (i : ℕ) → comes_to parents (suc n) i j ≡ comes_to parents n i j

still_more : (parents : List ℕ) (j n : ℕ) → Still parents j n → Still parents j (suc n)
still_more parents j n still i = ap (λ b. nat_eq i j || b) (still (get_or parents i 0))

still_all : (parents : List ℕ) (j n k : ℕ) → Still parents j n → (i : ℕ) → comes_to parents (k + n) i j ≡ comes_to parents n i j
still_all parents j n zero still i = let none : 0 + n ≡ n = omega arith in ap (λ m. comes_to parents m i j) none
still_all parents j n (suc k) still i =
    let more : suc k + n ≡ suc (k + n) = omega arith in
    ap (λ m. comes_to parents m i j) more ∙ ap (λ b. nat_eq i j || b) (still_all parents j n k still (get_or parents i 0)) ∙ still i

-- how many numbers but the root, of which m are above none, come to j
abbrev pub reached : List ℕ → ℕ → ℕ → ℕ → ℕ
reached parents j m n = count_below (λ i. comes_to parents n (suc i) j) m

still_or_more : (parents : List ℕ) (j m n : ℕ) → get_or parents 0 0 ≡ 0 → length parents ≡ suc m
    → Still parents j (suc n) ⊎ (reached parents j m (suc n) < reached parents j m (suc (suc n)))
still_or_more parents j m n root count = at (nat_lt (reached parents j m (suc n)) (reached parents j m (suc (suc n)))) refl
  where
    grows : Implies (λ i. comes_to parents (suc n) (suc i) j) (λ i. comes_to parents (suc (suc n)) (suc i) j)
    grows i h = one_more parents (suc n) (suc i) j h

    still : reached parents j m (suc (suc n)) ≤ reached parents j m (suc n) → Still parents j (suc n)
    still le zero = root_is parents (suc (suc n)) j root ∙ sym (root_is parents (suc n) j root)
    still le (suc i) = inside (nat_lt i m) refl
      where
        inside : (b : Bool) → nat_lt i m ≡ b → comes_to parents (suc (suc n)) (suc i) j ≡ comes_to parents (suc n) (suc i) j
        inside true e =
            let l : i < m = grind (arith, nat_tests) in
            count_same (λ k. comes_to parents (suc n) (suc k) j) (λ k. comes_to parents (suc (suc n)) (suc k) j) m grows le i l
        inside false e =
            let l : m ≤ i = grind (arith, nat_tests) in let past : length parents ≤ suc i = omega arith in
            outside_is parents (suc n) (suc i) j root past ∙ sym (outside_is parents n (suc i) j root past)

    at : (b : Bool) → nat_lt (reached parents j m (suc n)) (reached parents j m (suc (suc n))) ≡ b
        → Still parents j (suc n) ⊎ (reached parents j m (suc n) < reached parents j m (suc (suc n)))
    at true e = inr (grind (arith, nat_tests))
    at false e = inl (still (grind (arith, nat_tests)))

still_or_many : (parents : List ℕ) (j m n : ℕ) → get_or parents 0 0 ≡ 0 → length parents ≡ suc m → Still parents j (suc n) ⊎ (suc n ≤ reached parents j m (suc (suc n)))
still_or_many parents j m zero root count = at (still_or_more parents j m zero root count)
  where
    at : Still parents j 1 ⊎ (reached parents j m 1 < reached parents j m 2) → Still parents j 1 ⊎ (1 ≤ reached parents j m 2)
    at (inl still) = inl still
    at (inr more) = inr (omega arith)
still_or_many parents j m (suc n) root count = at (still_or_many parents j m n root count) (still_or_more parents j m (suc n) root count)
  where
    at : Still parents j (suc n) ⊎ (suc n ≤ reached parents j m (suc (suc n)))
        → Still parents j (suc (suc n)) ⊎ (reached parents j m (suc (suc n)) < reached parents j m (suc (suc (suc n))))
        → Still parents j (suc (suc n)) ⊎ (suc (suc n) ≤ reached parents j m (suc (suc (suc n))))
    at (inl still) next = inl (still_more parents j (suc n) still)
    at (inr many) (inl still) = inl still
    at (inr many) (inr more) = inr (omega arith)

still_at : (parents : List ℕ) (j m : ℕ) → get_or parents 0 0 ≡ 0 → length parents ≡ suc m → Still parents j (suc m)
still_at parents j m root count = at (still_or_many parents j m m root count)
  where
    at : Still parents j (suc m) ⊎ (suc m ≤ reached parents j m (suc (suc m))) → Still parents j (suc m)
    at (inl still) = still
    at (inr many) = let most : reached parents j m (suc (suc m)) ≤ m = count_bounded (λ i. comes_to parents (suc (suc m)) (suc i) j) m in absurd (omega arith)

pub more_steps_of_numbers_change_nothing : MoreStepsOfNumbersChangeNothing
more_steps_of_numbers_change_nothing parents n i j some root = at (length parents) refl some
  where
    at : (m : ℕ) → length parents ≡ m → 0 < m → comes_to parents (m + n) i j ≡ comes_to parents m i j
    at zero e less = absurd (omega arith)
    at (suc m) e less =
        let swap : suc m + n ≡ n + suc m = omega arith in ap (λ k. comes_to parents k i j) swap ∙ still_all parents j (suc m) n (still_at parents j m root e) i
