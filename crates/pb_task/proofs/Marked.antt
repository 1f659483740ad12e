-- Marks of actions as bits of words.
use Rattle.std.proofs.Common.{◌≡◌, ℕ, ◌+◌, ◌-◌, ◌*◌, ◌/◌, ◌%◌, ◌^◌, ◌<◌, ◌≤◌, true, false, List, get_or, ◌==◌, refl, sym, ap, arith, ◌∙◌, ◌⊎◌, inl, inr, min}
use Rattle.std.specs.Int.{bit_at, trailing_zeros, w64}
use Rattle.std.proofs.lemmas.Bool.{cases_lt}
use Rattle.std.proofs.lemmas.Nat.{shr-shr, shr_le}
use Rattle.std.proofs.lemmas.Nat.Bits.{bit_at-zero, bit_at_above, bit_at-trailing_zeros}
use Rattle.pb_task.specs.Marks.{is_marked}
use Rattle.pb_task.proofs.NextAtoms.{positive}

-- ---- the marks from a place on

module _ (marks : List ℕ) (at word : ℕ) (is : word ≡ get_or marks (at / 64) 0 / 2 ^ (at % 64)) where
  pub mark_of : (i : ℕ) → at % 64 + i < 64 → is_marked marks (at + i) ≡ (bit_at word i == 1)
  mark_of i less =
      let place : (at + i) / 64 ≡ at / 64 = omega arith in
      let bit : (at + i) % 64 ≡ at % 64 + i = omega arith in
      ap (λ p. get_or marks p 0 / 2 ^ ((at + i) % 64) % 2 == 1) place
      ∙ ap (λ b. get_or marks (at / 64) 0 / 2 ^ b % 2 == 1) bit
      ∙ ap (λ n. n % 2 == 1) (sym (shr-shr (get_or marks (at / 64) 0) (at % 64) i))
      ∙ ap (λ w. bit_at w i == 1) (sym is)

  mark_at : (action : ℕ) → at ≤ action → action < (at / 64 + 1) * 64 → is_marked marks action ≡ (bit_at word (action - at) == 1)
  mark_at action from less =
      let place : at + (action - at) ≡ action = omega arith in
      ap (is_marked marks) (sym place) ∙ mark_of (action - at) (omega arith)

  pub none_in_word : word ≡ 0 → (action : ℕ) → at ≤ action → action < (at / 64 + 1) * 64 → is_marked marks action ≡ false
  none_in_word e action from less = mark_at action from less ∙ ap (λ w. bit_at w (action - at) == 1) e ∙ ap (λ n. n == 1) (bit_at-zero (action - at))

-- the first mark in a word that isn't 0
module _ (marks : List ℕ) (at : ℕ) (small : get_or marks (at / 64) 0 < 2 ^ 64) (other : get_or marks (at / 64) 0 / 2 ^ (at % 64) ≡ 0 → ⊥) where
  -- the word from the place on, and how many of its lowest bits are 0
  abbrev word : ℕ
  word = get_or marks (at / 64) 0 / 2 ^ (at % 64)

  abbrev zeros : ℕ
  zeros = trailing_zeros w64 word

  some : 0 < word
  some = positive word other

  fits : word < 2 ^ 64
  fits = let le : word ≤ get_or marks (at / 64) 0 = shr_le (get_or marks (at / 64) 0) (at % 64) in omega (arith, le, small)

  one : bit_at word zeros ≡ 1
  one = (bit_at-trailing_zeros w64 word some fits).1

  first_inside : at % 64 + zeros < 64
  first_inside = go (cases_lt (at % 64 + zeros) 64) where
    go : (at % 64 + zeros < 64) ⊎ (64 ≤ at % 64 + zeros) → at % 64 + zeros < 64
    go (inl less) = less
    go (inr above) =
        let none : bit_at (get_or marks (at / 64) 0) (at % 64 + zeros) ≡ 0 = bit_at_above (get_or marks (at / 64) 0) 64 (at % 64 + zeros) small above in
        let same : bit_at word zeros ≡ bit_at (get_or marks (at / 64) 0) (at % 64 + zeros) = ap (λ n. n % 2) (shr-shr (get_or marks (at / 64) 0) (at % 64) zeros) in
        let wrong : 0 ≡ 1 = sym none ∙ sym same ∙ one in absurd (omega (arith, wrong))

  first_is_marked : is_marked marks (at + zeros) ≡ true
  first_is_marked = mark_of marks at word refl zeros first_inside ∙ ap (λ n. n == 1) one

  none_before_first : (action : ℕ) → at ≤ action → action < at + zeros → is_marked marks action ≡ false
  none_before_first action from less =
      let inside : at % 64 + zeros < 64 = first_inside in
      let end : action < (at / 64 + 1) * 64 = omega arith in
      mark_at marks at word refl action from end ∙ ap (λ n. n == 1) ((bit_at-trailing_zeros w64 word some fits).2 (action - at) (omega arith))

  module _ (count result : ℕ) (is : result ≡ min count (at + zeros)) where
    pub least_is_marked : result < count → is_marked marks result ≡ true
    least_is_marked less = let same : result ≡ at + zeros = omega arith in ap (is_marked marks) same ∙ first_is_marked

    pub none_before_least : (action : ℕ) → at ≤ action → action < result → is_marked marks action ≡ false
    none_before_least action from less = none_before_first action from (omega arith)

-- what holds for none before a place, and for none from it to the next
pub none_marked : (marks : List ℕ) (from at next : ℕ) → ((action : ℕ) → from ≤ action → action < at → is_marked marks action ≡ false)
    → ((action : ℕ) → at ≤ action → action < next → is_marked marks action ≡ false) → (action : ℕ) → from ≤ action → action < next → is_marked marks action ≡ false
none_marked marks from at next early late action above less = go (cases_lt action at) where
  go : (action < at) ⊎ (at ≤ action) → is_marked marks action ≡ false
  go (inl before) = early action above before
  go (inr after) = late action after less
