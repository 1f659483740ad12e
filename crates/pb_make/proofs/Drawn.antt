-- The draws of a generator one by one, and its sum in words of 64 bits.
use Rattle.std.proofs.Common.{◌≡◌, ℕ, ◌+◌, ◌-◌, ◌*◌, ◌/◌, ◌<◌, ◌≤◌, ◌%◌, [], ◌∷◌, suc, refl, sym, ap, ◌∙◌, arith}
use Rattle.std.proofs.Math.Nat.{mod-add-div', add-mul-mod_self_right}
use Rattle.pb_make.specs.Draws.{next_number, draw_from, draws}

-- a first draw is left
pub draws-more : (i count number : ℕ) → i < count → draws (count - i) number ≡ draw_from number ∷ draws (count - (i + 1)) (next_number number)
draws-more i count number below = let e : count - i ≡ suc (count - (i + 1)) = omega arith in rw e refl

-- none is left
pub draws-none : (i count number : ℕ) → count ≤ i → draws (count - i) number ≡ []
draws-none i count number above = let e : count - i ≡ 0 = omega arith in rw e refl

-- the remainder of a sum whose first part is a remainder already
pub mod-add-first : (a c m : ℕ) → (a % m + c) % m ≡ (a + c) % m
mod-add-first a c m =
    let parts : a + c ≡ (a % m + c) + (a / m) * m = omega (arith, mod-add-div' a m)
    in sym (ap (λ n. n % m) parts ∙ add-mul-mod_self_right (a % m + c) (a / m) m)
