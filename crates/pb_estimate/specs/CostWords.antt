-- What is known of the cost of an atom, in one word of 32 bits.
use Rattle.std.specs.Prelude.{◌≡◌, ℕ, ◌+◌, ◌-◌, ◌^◌, ◌≤◌, Bool, true, false, nat_lt, ◌==◌, if◌then◌else◌}
use Rattle.std.proofs.Common.{refl, sym, arith}
use Rattle.std.proofs.lemmas.Bool.Decides.{nat_tests}
use Rattle.pb_estimate.specs.declared.exploration.AtomCost.{AtomCost}
use Rattle.pb_estimate.specs.declared.exploration.AtomCost.TheVariants.{Unreached, Open, Final}

-- what a word says of the cost of an atom: a word below 2^31 is a final cost, and the greatest
-- means that the atom isn't reached
abbrev pub cost_of_word : (word : ℕ) → AtomCost
cost_of_word word =
    if nat_lt word (2 ^ 31) then Final word else if word == 2 ^ 32 - 1 then Unreached
    else Open (word - 2 ^ 31)

-- the word for what is known
abbrev pub word_of_cost : AtomCost → ℕ
word_of_cost Unreached = 2 ^ 32 - 1
word_of_cost (Open cost) = 2 ^ 31 + cost
word_of_cost (Final cost) = cost

-- a word is that of what it says
pub word_is_back : (word : ℕ) → word_of_cost (cost_of_word word) ≡ word
word_is_back word = go (nat_lt word (2 ^ 31)) refl (word == 2 ^ 32 - 1) refl where
  go : (low : Bool) → nat_lt word (2 ^ 31) ≡ low → (top : Bool) → (word == 2 ^ 32 - 1) ≡ top
      → word_of_cost (if low then Final word else if top then Unreached else Open (word - 2 ^ 31))
      ≡ word
  go true e top f = refl
  go false e true f = let is : word ≡ 2 ^ 32 - 1 = grind (arith, nat_tests, f) in sym is
  go false e false f =
      let le : 2 ^ 31 ≤ word = grind (arith, nat_tests, e) in
      let back : 2 ^ 31 + (word - 2 ^ 31) ≡ word = omega arith in
      back
