-- Sets of atoms that lie in an array one after another, so many words each.
use Rattle.std.specs.Prelude.{◌≡◌, ℕ, zero, suc, ◌*◌, ◌≤◌, List, [], ◌∷◌, length, take, drop}
use Rattle.pb_packed.specs.Sizes.{state_bits}
use Rattle.pb_packed.specs.Words.{number_of, AreWords}

-- What contracts see of such sets.
pub record FlatSets : Type 0 where
  pub width : ℕ  -- how many words each set takes
  pub sets : List ℕ

-- the sets that these words spell
abbrev pub sets_of : (width count : ℕ) → List ℕ → List ℕ
sets_of width zero words = []
sets_of width (suc count) words =
    number_of (take width words) ∷ sets_of width count (drop width words)

-- what contracts see of these words
abbrev pub flat_of : (width count : ℕ) → List ℕ → FlatSets
flat_of width count words = record { width = width; sets = sets_of width count words }

-- the words are those of so many sets
abbrev pub AreFlat : (width count : ℕ) → List ℕ → Type 0
AreFlat width count words =
    (1 ≤ width) × (64 * width ≤ state_bits) × (length words ≡ width * count)
    × AreWords (length words) words
