-- Numbers that lie in an array one after another, so many words each.
use Rattle.std.specs.Prelude.{◌≡◌, ◌≢◌, ℕ, ◌*◌, ◌<◌, ◌≤◌, Option, IfSome, IfNone, List, length, slice_index}
use Rattle.pb_packed.specs.Words.{AreWords}
use Rattle.pb_task.specs.FlatSets.{sets_of}

-- What contracts see of such numbers.
pub record FlatNumbersView : Type 0 where
  pub width : ℕ  -- how many words each takes
  pub numbers : List ℕ

-- what contracts see of these words; sets of atoms are kept in the same way
abbrev pub flat_of : (width count : ℕ) → List ℕ → FlatNumbersView
flat_of width count words = record { width = width; numbers = sets_of width count words }

-- the words are those of so many numbers
abbrev pub AreFlat : (width count : ℕ) → List ℕ → Type 0
AreFlat width count words =
    (1 ≤ width) × (width ≤ 16) × (length words ≡ width * count) × AreWords (length words) words

-- each number is less than those after it
abbrev pub AreAscending : List ℕ → Type 0
AreAscending numbers =
    (j k : ℕ) → j < k → k < length numbers → slice_index numbers j < slice_index numbers k

-- those before a place are less than a number
abbrev pub AreLess : (place : ℕ) → List ℕ → (number : ℕ) → Type 0
AreLess place numbers number = (j : ℕ) → j < place → slice_index numbers j < number

-- those from a place on are greater than a number
abbrev pub AreGreater : (place : ℕ) → List ℕ → (number : ℕ) → Type 0
AreGreater place numbers number =
    (j : ℕ) → place ≤ j → j < length numbers → number < slice_index numbers j

-- this is the place of the number among these, if it is one of them
abbrev pub IsPlaceOf : Option ℕ → (numbers : List ℕ) → (number : ℕ) → Type 0
IsPlaceOf place numbers number =
    IfSome place (λ i. (i < length numbers) × (slice_index numbers i ≡ number))
    × IfNone place ((i : ℕ) → i < length numbers → slice_index numbers i ≢ number)
