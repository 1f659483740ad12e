-- The least of some open costs, found one after another by their words.
use Rattle.std.proofs.Common.{◌≡◌, ℕ, ◌+◌, ◌-◌, ◌^◌, ◌<◌, ◌≤◌, ◌⊎◌, List, length, get_or, take, All, arith, inl, inr}
use Rattle.std.proofs.lemmas.List.Elements.{All-more, All-weaker}
use Rattle.pb_estimate.specs.declared.exploration.AtomCost.{AtomCost}
use Rattle.pb_estimate.specs.declared.exploration.AtomCost.TheVariants.{Open}
use Rattle.pb_estimate.specs.Exploring.{known_in}

-- no atom of these has a lower open cost
abbrev pub IsNoMore : (costs : List AtomCost) → (atoms : List ℕ) → (cost : ℕ) → Type 0
IsNoMore costs atoms least = All (λ atom. (cost : ℕ) → known_in costs atom ≡ Open cost → least ≤ cost) atoms

abbrev pub HasNone : (costs : List AtomCost) → (atoms : List ℕ) → Type 0
HasNone costs atoms = All (λ atom. (cost : ℕ) → known_in costs atom ≡ Open cost → ⊥) atoms

-- a cost has a word of 32 bits if it is open, and it isn't below this one
abbrev pub IsFrom : (costs : List AtomCost) → (word atom : ℕ) → Type 0
IsFrom costs word atom = (cost : ℕ) → known_in costs atom ≡ Open cost → (word ≤ 2 ^ 31 + cost) × (cost < 2 ^ 31 - 1)

-- the word of the atom's open cost, or the greatest word
abbrev pub IsFound : (costs : List AtomCost) → (word atom : ℕ) → Type 0
IsFound costs word atom = (word ≡ 2 ^ 32 - 1) ⊎ ((atom < length costs) × (2 ^ 31 ≤ word) × (known_in costs atom ≡ Open (word - 2 ^ 31)))

pub found_here : (costs : List AtomCost) (word atom : ℕ) → atom < length costs → (word ≡ 2 ^ 32 - 1) ⊎ ((2 ^ 31 ≤ word) × (known_in costs atom ≡ Open (word - 2 ^ 31))) → IsFound costs word atom
found_here costs word atom inside (inl none) = inl none
found_here costs word atom inside (inr is) = inr (inside, is.0, is.1)

module _ (costs : List AtomCost) (atoms : List ℕ) where
  pub from_more : (i : ℕ) → i < length atoms → (best word best' : ℕ) → ((cost : ℕ) → known_in costs (get_or atoms i 0) ≡ Open cost → (word ≡ 2 ^ 31 + cost) × (cost < 2 ^ 31 - 1))
      → best' ≤ best → best' ≤ word → All (IsFrom costs best) (take i atoms) → All (IsFrom costs best') (take (i + 1) atoms)
  from_more i less best word best' open_is no_more no_more_here before =
      All-more (IsFrom costs best') atoms i 0 less
      (All-weaker (IsFrom costs best) (IsFrom costs best') (λ atom from cost e. let h : (best ≤ 2 ^ 31 + cost) × (cost < 2 ^ 31 - 1) = from cost e in (omega (arith, h.0, no_more), h.1)) (take i atoms) before)
      (λ cost e. let h : (word ≡ 2 ^ 31 + cost) × (cost < 2 ^ 31 - 1) = open_is cost e in (omega (arith, h.0, no_more_here), h.1))

  pub none_from : All (IsFrom costs (2 ^ 32 - 1)) atoms → HasNone costs atoms
  none_from all k d less cost e = let h : (2 ^ 32 - 1 ≤ 2 ^ 31 + cost) × (cost < 2 ^ 31 - 1) = all k d less cost e in omega (arith, h.0, h.1)

  pub least_from : (best : ℕ) → All (IsFrom costs best) atoms → IsNoMore costs atoms (best - 2 ^ 31)
  least_from best all k d less cost e = let h : (best ≤ 2 ^ 31 + cost) × (cost < 2 ^ 31 - 1) = all k d less cost e in omega (arith, h.0)
