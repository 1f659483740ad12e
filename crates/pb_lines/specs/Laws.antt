-- What it means that a text is cut, and that a word spells a number.
use Rattle.std.specs.Prelude.{◌≡◌, ◌<◌, ◌^◌, ℕ, true, List, ◌∷◌, ◌++◌, Some}
use Rattle.std.specs.Fmt.{decimal}
use Rattle.pb_lines.specs.Words.{part, behind, is_text, number_of, has_none}
use Rattle.pb_lines.specs.ShortNumbers.{short_number_of, IsShortNumber}

-- A text is cut at a byte exactly if it has such a byte: into the part before the first one, and
-- the part after it.
abbrev pub PartsAreJoined : Type 0
PartsAreJoined =
    (byte : ℕ) (text front rest : List ℕ)
    → (part byte text ≡ Some (front, rest)
    → (text ≡ front ++ byte ∷ rest) × (has_none byte front ≡ true))
    × (text ≡ front ++ byte ∷ rest → has_none byte front ≡ true
    → part byte text ≡ Some (front, rest))

-- A text has a rest after a piece exactly if it begins with the piece.
abbrev pub PiecesAreJoined : Type 0
PiecesAreJoined =
    (piece text rest : List ℕ)
    → (behind piece text ≡ Some rest → text ≡ piece ++ rest)
    × (text ≡ piece ++ rest → behind piece text ≡ Some rest)

-- A text is a piece exactly if both are the same.
abbrev pub TextsAreEqual : Type 0
TextsAreEqual =
    (piece text : List ℕ)
    → (is_text piece text ≡ true → text ≡ piece) × (text ≡ piece → is_text piece text ≡ true)

-- A word spells a number exactly if it is the decimal digits of the number, which is below 2^63.
-- Each number thus has one spelling: no sign, and no leading zero except in 0 itself.
abbrev pub NumbersAreDecimal : Type 0
NumbersAreDecimal =
    (word : List ℕ) (n : ℕ)
    → (number_of word ≡ Some n → (word ≡ decimal n) × (n < 2 ^ 63))
    × (word ≡ decimal n → n < 2 ^ 63 → number_of word ≡ Some n)

-- A word spells a short number exactly if it is one to nine decimal digits, and the number is their
-- value. A short number thus has several spellings.
abbrev pub ShortNumbersAreDigits : Type 0
ShortNumbersAreDigits =
    (word : List ℕ) (number : ℕ)
    → (short_number_of word ≡ Some number → IsShortNumber word number)
    × (IsShortNumber word number → short_number_of word ≡ Some number)
