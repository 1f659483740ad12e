-- How many of the first numbers pass a test.
use Rattle.std.proofs.Common.{◌≡◌, ◌≢◌, ℕ, zero, suc, ◌+◌, ◌<◌, ◌≤◌, Bool, true, false, if◌then◌else◌, refl, sym, subst, ap, arith, ◌∙◌, ◌⊎◌, inl, inr}
use Rattle.std.proofs.lemmas.Bool.{cases_eq}
use Rattle.pb_estimate.specs.Exploring.{count}

pub count_same : (accepts accepts' : ℕ → Bool) (below : ℕ) → ((k : ℕ) → k < below → accepts k ≡ accepts' k) → count accepts below ≡ count accepts' below
count_same accepts accepts' zero same = refl
count_same accepts accepts' (suc n) same =
    ap (λ m. m + (if accepts n then 1 else 0)) (count_same accepts accepts' n (λ k less. same k (omega (arith, less))))
    ∙ ap (λ test. count accepts' n + (if test then 1 else 0)) (same n (omega arith))

pub count_none : (accepts : ℕ → Bool) (below : ℕ) → ((k : ℕ) → k < below → accepts k ≡ false) → count accepts below ≡ 0
count_none accepts zero none = refl
count_none accepts (suc n) none =
    ap (λ m. m + (if accepts n then 1 else 0)) (count_none accepts n (λ k less. none k (omega (arith, less))))
    ∙ ap (λ test. 0 + (if test then 1 else 0)) (none n (omega arith))

pub none_counted : (accepts : ℕ → Bool) (below k : ℕ) → count accepts below ≡ 0 → k < below → accepts k ≡ false
none_counted accepts zero k e less = absurd (omega (arith, less))
none_counted accepts (suc n) k e less = go (cases_eq k n) (none_counted accepts n k) where
  last : (test : Bool) → count accepts n + (if test then 1 else 0) ≡ 0 → (test ≡ false) × (count accepts n ≡ 0)
  last true e = absurd (omega (arith, e))
  last false e = (refl, omega (arith, e))

  go : (k ≡ n) ⊎ (k ≢ n) → (count accepts n ≡ 0 → k < n → accepts k ≡ false) → accepts k ≡ false
  go (inl same) rest = ap accepts same ∙ (last (accepts n) e).0
  go (inr other) rest = rest (last (accepts n) e).1 (omega (arith, less, other))

-- some number is counted
pub some_counted : (accepts : ℕ → Bool) (below : ℕ) → 1 ≤ count accepts below → (k : ℕ) × (k < below) × (accepts k ≡ true)
some_counted accepts zero some = absurd (omega (arith, some))
some_counted accepts (suc n) some = go (accepts n) refl some (some_counted accepts n) where
  go : (test : Bool) → accepts n ≡ test → 1 ≤ count accepts n + (if test then 1 else 0) → (1 ≤ count accepts n → (k : ℕ) × (k < n) × (accepts k ≡ true))
      → (k : ℕ) × (k < suc n) × (accepts k ≡ true)
  go true is h rest = (n, omega arith, is)
  go false is h rest = let found = rest (omega (arith, h)) in (found.0, let less : found.0 < n = found.1 in omega arith, found.2)

-- a test that accepts what another accepts, less one number
pub count_drops : (accepts accepts' : ℕ → Bool) (below one : ℕ) → one < below → accepts one ≡ true → accepts' one ≡ false
    → ((k : ℕ) → k ≢ one → accepts' k ≡ accepts k) → count accepts below ≡ suc (count accepts' below)
count_drops accepts accepts' zero one less true_then false_then others = absurd (omega (arith, less))
count_drops accepts accepts' (suc n) one less true_then false_then others = go (cases_eq one n) (count_drops accepts accepts' n one) where
  go : (one ≡ n) ⊎ (one ≢ n) → (one < n → accepts one ≡ true → accepts' one ≡ false → ((k : ℕ) → k ≢ one → accepts' k ≡ accepts k) → count accepts n ≡ suc (count accepts' n))
      → count accepts (suc n) ≡ suc (count accepts' (suc n))
  go (inl same) rest =
      let front : count accepts n ≡ count accepts' n = count_same accepts accepts' n (λ k k_less. sym (others k (omega (arith, k_less, same)))) in
      let here : accepts n ≡ true = subst (λ k. accepts k ≡ true) same true_then in
      let there : accepts' n ≡ false = subst (λ k. accepts' k ≡ false) same false_then in
      ap (λ test. count accepts n + (if test then 1 else 0)) here
      ∙ ap (λ m. m + 1) front
      ∙ (let e : count accepts' n + 1 ≡ suc (count accepts' n + 0) = omega arith in e)
      ∙ ap (λ test. suc (count accepts' n + (if test then 1 else 0))) (sym there)
  go (inr other) rest =
      let front : count accepts n ≡ suc (count accepts' n) = rest (omega (arith, less, other)) true_then false_then others in
      let last : accepts' n ≡ accepts n = others n (λ e. other (sym e)) in
      ap (λ m. m + (if accepts n then 1 else 0)) front
      ∙ ap (λ test. suc (count accepts' n) + (if test then 1 else 0)) (sym last)
      ∙ (let e : suc (count accepts' n) + (if accepts' n then 1 else 0) ≡ suc (count accepts' n + (if accepts' n then 1 else 0)) = omega arith in e)

-- what is counted is there
pub counted_at : (accepts : ℕ → Bool) (below one : ℕ) → one < below → accepts one ≡ true → 1 ≤ count accepts below
counted_at accepts zero one less true_then = absurd (omega (arith, less))
counted_at accepts (suc n) one less true_then = go (cases_eq one n) (counted_at accepts n one) where
  here : (test : Bool) → test ≡ true → 1 ≤ count accepts n + (if test then 1 else 0)
  here true e = omega arith
  here false e = cc

  go : (one ≡ n) ⊎ (one ≢ n) → (one < n → accepts one ≡ true → 1 ≤ count accepts n) → 1 ≤ count accepts (suc n)
  go (inl same) rest = here (accepts n) (subst (λ k. accepts k ≡ true) same true_then)
  go (inr other) rest = let before : 1 ≤ count accepts n = rest (omega (arith, less, other)) true_then in omega arith
