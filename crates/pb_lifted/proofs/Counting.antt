-- How many numbers below a bound pass a test.
use Rattle.std.proofs.Common.{◌≡◌, ◌<◌, ◌≤◌, ◌+◌, ℕ, zero, suc, Bool, true, false, nat_lt, refl, subst, arith}
use Rattle.std.proofs.lemmas.Bool.Decides.{nat_tests}

abbrev pub unit_if : Bool → ℕ
unit_if true = 1
unit_if false = 0

abbrev pub count_below : (ℕ → Bool) → ℕ → ℕ
count_below test zero = 0
count_below test (suc m) = unit_if (test m) + count_below test m

at_most_one : (b : Bool) → unit_if b ≤ 1
at_most_one true = omega arith
at_most_one false = omega arith

pub count_bounded : (test : ℕ → Bool) (m : ℕ) → count_below test m ≤ m
count_bounded test zero = omega arith
count_bounded test (suc m) = let one : unit_if (test m) ≤ 1 = at_most_one (test m) in let rest : count_below test m ≤ m = count_bounded test m in omega arith

-- where whatever passes the one passes the other
abbrev pub Implies : (ℕ → Bool) → (ℕ → Bool) → Type 0
Implies f g = (i : ℕ) → f i ≡ true → g i ≡ true

unit_grows : (a b : Bool) → (a ≡ true → b ≡ true) → unit_if a ≤ unit_if b
unit_grows true b h = let e : b ≡ true = h refl in rw e (omega arith)
unit_grows false true h = omega arith
unit_grows false false h = omega arith

pub count_grows : (f g : ℕ → Bool) (m : ℕ) → Implies f g → count_below f m ≤ count_below g m
count_grows f g zero h = omega arith
count_grows f g (suc m) h =
    let one : unit_if (f m) ≤ unit_if (g m) = unit_grows (f m) (g m) (h m) in let rest : count_below f m ≤ count_below g m = count_grows f g m h in omega arith

unit_same : (a b : Bool) → unit_if a ≡ unit_if b → b ≡ a
unit_same true true h = refl
unit_same true false h = absurd (omega arith)
unit_same false true h = absurd (omega arith)
unit_same false false h = refl

-- as many pass both only where the same do
pub count_same : (f g : ℕ → Bool) (m : ℕ) → Implies f g → count_below g m ≤ count_below f m → (i : ℕ) → i < m → g i ≡ f i
count_same f g zero h le i less = absurd (omega arith)
count_same f g (suc m) h le i less = at (count_same f g m h fewer i) (nat_lt i m) refl
  where
    one : unit_if (f m) ≤ unit_if (g m)
    one = unit_grows (f m) (g m) (h m)

    rest : count_below f m ≤ count_below g m
    rest = count_grows f g m h

    last : g m ≡ f m
    last = let a : unit_if (f m) ≤ unit_if (g m) = one in let b : count_below f m ≤ count_below g m = rest in unit_same (f m) (g m) (omega arith)

    fewer : count_below g m ≤ count_below f m
    fewer = let a : unit_if (f m) ≤ unit_if (g m) = one in omega arith

    at : (i < m → g i ≡ f i) → (b : Bool) → nat_lt i m ≡ b → g i ≡ f i
    at front true e = front (grind (arith, nat_tests))
    at front false e = let is : m ≡ i = grind (arith, nat_tests) in subst (λ k. g k ≡ f k) is last
