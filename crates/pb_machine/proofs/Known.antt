-- What is known as an incumbent.
use Rattle.std.proofs.Common.{◌≡◌, ℕ, min, Bool, true, ◌||◌, nat_lt, Option, Some, None, refl, sym, ap, ◌∙◌, ◌⊎◌, inl, inr, arith, true≢false}
use Rattle.std.proofs.Math.Bool.{or-true}
use Rattle.pb_model.specs.Store.{lesser}
use Rattle.pb_model.proofs.Callers.{by_cases, equal, equal_self, below, not_below}
use Rattle.pb_machine.specs.Machine.{is_same, with_known}

pub same_is : (a b : Option ℕ) → is_same a b ≡ true → a ≡ b
same_is None None h = refl
same_is None (Some y) h = absurd (true≢false (sym h))
same_is (Some x) None h = absurd (true≢false (sym h))
same_is (Some x) (Some y) h = ap (λ k. Some k) (equal x y h)

pub same_self : (a : Option ℕ) → is_same a a ≡ true
same_self None = refl
same_self (Some x) = equal_self x

pub known_new : (known : Option ℕ → Bool) (o : Option ℕ) → with_known known o o ≡ true
known_new known o = ap (λ r. r || known o) (same_self o)

pub known_more : (known : Option ℕ → Bool) (new o : Option ℕ) → known o ≡ true → with_known known new o ≡ true
known_more known new o h = ap (λ r. is_same o new || r) h ∙ or-true (is_same o new)

-- the lesser of two is one of them
pub lesser_one : (o : Option ℕ) (u : ℕ) → (lesser o (Some u) ≡ Some u) ⊎ (lesser o (Some u) ≡ o)
lesser_one None u = inl refl
lesser_one (Some x) u = by_cases (nat_lt x u)
    (λ e. let less = below x u e in let is : min x u ≡ x = omega (arith, less) in inr (ap (λ k. Some k) is))
    (λ e. let le = not_below x u e in let is : min x u ≡ u = omega (arith, le) in inl (ap (λ k. Some k) is))
