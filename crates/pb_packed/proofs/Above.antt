-- Bits above a number.
use Rattle.std.proofs.Common.{lit<, ◌≡◌, ℕ, ◌+◌, ◌-◌, ◌/◌, ◌%◌, ◌^◌, ◌<◌, ◌≤◌, ◌⊎◌, inl, inr, min, sym, ap, ◌∙◌, arith}
use Rattle.std.proofs.Math.Nat.{div-eq_of_lt, pow-le-pow_right, mod-eq_of_lt}
use Rattle.std.proofs.lemmas.Nat.{shr_below}
use Rattle.std.proofs.lemmas.Bool.{cases_lt}
use Rattle.pb_packed.specs.Bits.{bits_of}

pub power_le : (i j : ℕ) → i ≤ j → 2 ^ i ≤ 2 ^ j
power_le i j le = pow-le-pow_right {n = 2} (lit< tt) {i = i} {j = j} le

pub none_above : (n end at len : ℕ) → n < 2 ^ end → end ≤ at → bits_of n at len ≡ 0
none_above n end at len small le =
    let below : n < 2 ^ at = omega (arith, power_le end at le) in
    ap (λ q. q % 2 ^ len) (div-eq_of_lt below) ∙ mod-eq_of_lt (positive len)
  where
    positive : (k : ℕ) → 0 < 2 ^ k
    positive k = omega (arith, power_le 0 k (omega arith))

-- a field that goes on above the number has the bits below its end
pub cut_off : (n end at len less : ℕ) → n < 2 ^ end → at < end → less ≡ min len (end - at) → bits_of n at less ≡ bits_of n at len
cut_off n end at len less small inside is = which (cases_lt (end - at) len)
  where
    which : (end - at < len) ⊎ (len ≤ end - at) → bits_of n at less ≡ bits_of n at len
    which (inr le) = let e : less ≡ len = omega arith in ap (λ k. bits_of n at k) e
    which (inl lt) =
        let e : less ≡ end - at = omega arith in
        let sum : end - at + at ≡ end = omega arith in
        let below : n / 2 ^ at < 2 ^ (end - at) = shr_below n (end - at) at (omega (arith, small, ap (λ k. 2 ^ k) sum)) in
        let grown : n / 2 ^ at < 2 ^ len = omega (arith, below, power_le (end - at) len (omega arith)) in
        ap (λ k. bits_of n at k) e ∙ mod-eq_of_lt below ∙ sym (mod-eq_of_lt grown)
