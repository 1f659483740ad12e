-- The atoms of a set, found from one to the next by the bits of a field.
use Rattle.std.proofs.Common.{◌≡◌, ℕ, zero, suc, ◌+◌, ◌-◌, ◌/◌, ◌%◌, ◌^◌, ◌<◌, ◌≤◌, true, false, ◌==◌, refl, sym, subst, ap, arith, ◌∙◌, ◌⊎◌, inl, inr}
use Rattle.std.specs.Int.{bit_at, trailing_zeros, w64}
use Rattle.std.proofs.Math.Pow.{mod-mod-pow}
use Rattle.std.proofs.lemmas.Bool.{cases_lt}
use Rattle.std.proofs.lemmas.Nat.{field_of, shr-shr, mod_below, pow_pos}
use Rattle.std.proofs.lemmas.Nat.Bits.{bit_at-zero, bit_at_above, bit_at-trailing_zeros}
use Rattle.pb_packed.specs.Bits.{bits_of}
use Rattle.pb_task.specs.Strips.{has_atom}

bit_of_field : (set at len i : ℕ) → i < len → bit_at (bits_of set at len) i ≡ bits_of set (at + i) 1
bit_of_field set at len i less =
    let sum : (len - i) + i ≡ len = omega arith in
    let front : (len - i - 1) + 1 ≡ len - i = omega arith in
    ap (λ k. set / 2 ^ at % 2 ^ k / 2 ^ i % 2) (sym sum)
    ∙ ap (λ n. n % 2) (field_of (set / 2 ^ at) (len - i) i)
    ∙ ap (λ k. set / 2 ^ at / 2 ^ i % 2 ^ k % 2) (sym front)
    ∙ mod-mod-pow (set / 2 ^ at / 2 ^ i) (len - i - 1) 1
    ∙ ap (λ n. n % 2 ^ 1) (shr-shr set at i)

-- an atom of the field by the bit in its place
off_where : (set at len atom : ℕ) → at ≤ atom → atom < at + len → bit_at (bits_of set at len) (atom - at) ≡ 0 → has_atom set atom ≡ false
off_where set at len atom from less e =
    let place : at + (atom - at) ≡ atom = omega arith in
    let within : atom - at < len = omega arith in
    let bit : bits_of set atom 1 ≡ 0 = ap (λ k. bits_of set k 1) (sym place) ∙ sym (bit_of_field set at len (atom - at) within) ∙ e in
    ap (λ n. n == 1) bit

-- no atom is in a field of zeros
pub none_in_field : (set at len : ℕ) → bits_of set at len ≡ 0 → (atom : ℕ) → at ≤ atom → atom < at + len → has_atom set atom ≡ false
none_in_field set at len e atom from less = off_where set at len atom from less (ap (λ n. bit_at n (atom - at)) e ∙ bit_at-zero (atom - at))

pub positive : (n : ℕ) → (n ≡ 0 → ⊥) → 0 < n
positive zero h = absurd (h refl)
positive (suc n) h = omega arith

-- the first atom in a field that isn't 0
module _ (set at len word : ℕ) (is : word ≡ bits_of set at len) (some : 0 < word) (small : word < 2 ^ 64) where
  pub first_within : trailing_zeros w64 word < len
  first_within = go (cases_lt (trailing_zeros w64 word) len) where
    go : (trailing_zeros w64 word < len) ⊎ (len ≤ trailing_zeros w64 word) → trailing_zeros w64 word < len
    go (inl less) = less
    go (inr above) =
        let one : bit_at word (trailing_zeros w64 word) ≡ 1 = (bit_at-trailing_zeros w64 word some small).1 in
        let none : bit_at word (trailing_zeros w64 word) ≡ 0 =
        bit_at_above word len (trailing_zeros w64 word) (subst (λ n. n < 2 ^ len) (sym is) (mod_below (set / 2 ^ at) (2 ^ len) (pow_pos len))) above in
        let wrong : 0 ≡ 1 = sym none ∙ one in absurd (omega (arith, wrong))

  pub first_is_in : has_atom set (at + trailing_zeros w64 word) ≡ true
  first_is_in =
      let bit : bits_of set (at + trailing_zeros w64 word) 1 ≡ 1 =
      sym (bit_of_field set at len (trailing_zeros w64 word) first_within) ∙ ap (λ n. bit_at n (trailing_zeros w64 word)) (sym is) ∙ (bit_at-trailing_zeros w64 word some small).1 in
      ap (λ n. n == 1) bit

  pub none_before_first : (atom : ℕ) → at ≤ atom → atom < at + trailing_zeros w64 word → has_atom set atom ≡ false
  none_before_first atom from less =
      let within : trailing_zeros w64 word < len = first_within in
      off_where set at len atom from (omega arith) (ap (λ n. bit_at n (atom - at)) (sym is) ∙ (bit_at-trailing_zeros w64 word some small).2 (atom - at) (omega arith))

-- what holds for none before a place, and for none from it to the next
pub none_before : (set from at next : ℕ) → ((atom : ℕ) → from ≤ atom → atom < at → has_atom set atom ≡ false) → ((atom : ℕ) → at ≤ atom → atom < next → has_atom set atom ≡ false)
    → (atom : ℕ) → from ≤ atom → atom < next → has_atom set atom ≡ false
none_before set from at next early late atom above less = go (cases_lt atom at) where
  go : (atom < at) ⊎ (at ≤ atom) → has_atom set atom ≡ false
  go (inl before) = early atom above before
  go (inr after) = late atom after less
