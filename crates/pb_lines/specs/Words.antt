-- Parts of a text, and numbers as words of decimal digits.
use Rattle.std.specs.Prelude.{ℕ, suc, ◌+◌, ◌-◌, ◌*◌, ◌^◌, Bool, true, false, not, Option, None, Some, List, [], ◌∷◌, length, take, drop, count_by, if◌then◌else◌, nat_lt, nat_le, ◌==◌, ◌&&◌}

-- how many bytes come before the first of this kind, or all if there is none
unfoldable pub place_of : (byte : ℕ) → List ℕ → ℕ
place_of byte [] = 0
place_of byte (b ∷ bs) = if b == byte then 0 else suc (place_of byte bs)

-- the text before the first such byte, and the text after it
abbrev pub part : (byte : ℕ) → List ℕ → Option (List ℕ × List ℕ)
part byte text =
    if nat_lt (place_of byte text) (length text) then Some
    (take (place_of byte text) text, drop (place_of byte text + 1) text) else None

-- what is left of a text after this piece, if the text begins with the piece
unfoldable pub behind : (piece text : List ℕ) → Option (List ℕ)
behind [] text = Some text
behind (p ∷ ps) [] = None
behind (p ∷ ps) (b ∷ bs) = if p == b then behind ps bs else None

abbrev pub is_all : Option (List ℕ) → Bool
is_all None = false
is_all (Some rest) = length rest == 0

-- the text is this one
abbrev pub is_text : (piece text : List ℕ) → Bool
is_text piece text = is_all (behind piece text)

abbrev pub is_digit : ℕ → Bool
is_digit b = nat_le 48 b && nat_le b 57

-- the number with these digits after it, if all are digits and it stays below 2^63
unfoldable pub number_after : ℕ → List ℕ → Option ℕ
number_after n [] = Some n
number_after n (b ∷ bs) =
    if is_digit b && nat_lt (n * 10 + (b - 48)) (2 ^ 63) then number_after (n * 10 + (b - 48)) bs
    else None

-- more digits follow a leading zero
abbrev pub is_padded : List ℕ → Bool
is_padded [] = false
is_padded (b ∷ bs) = b == 48 && nat_lt 0 (length bs)

-- the number that a word spells
abbrev pub number_of : List ℕ → Option ℕ
number_of word =
    if length word == 0 then None else (if is_padded word then None else number_after 0 word)

-- the text has no such byte
abbrev pub has_none : (byte : ℕ) → List ℕ → Bool
has_none byte [] = true
has_none byte (b ∷ bs) = not (b == byte) && has_none byte bs

-- how many lines of a text have their end
abbrev pub line_feeds : List ℕ → ℕ
line_feeds text = count_by (λ b. b == 10) text
