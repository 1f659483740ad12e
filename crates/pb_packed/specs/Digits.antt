-- Numbers in hexadecimal digits.
use Rattle.std.specs.Prelude.{◌≤◌, ℕ, zero, suc, ◌+◌, ◌/◌, ◌%◌, Bool, ◌&&◌, ◌||◌, nat_lt, nat_le, if◌then◌else◌, IsTrue, List, [], ◌∷◌, ◌++◌, length, All}
use Rattle.pb_packed.specs.Sizes.{most_digits}

-- the character of a digit from 0 to 15: one of `0123456789abcdef`
abbrev pub hex_digit : ℕ → ℕ
hex_digit n = if nat_lt n 10 then 48 + n else 87 + n

-- the lowest `count` digits of a number, the most significant first
unfoldable pub hex_digits : (count n : ℕ) → List ℕ
hex_digits zero n = []
hex_digits (suc count) n = hex_digits count (n / 16) ++ hex_digit (n % 16) ∷ []

-- the character is one of `0123456789abcdef`
abbrev pub is_hex_digit : ℕ → Bool
is_hex_digit c = (nat_le 48 c && nat_le c 57) || (nat_le 97 c && nat_le c 102)

-- the text is 1 to 256 hexadecimal digits, in lower case
abbrev pub AreHexDigits : List ℕ → Type 0
AreHexDigits text =
    (1 ≤ length text) × (length text ≤ most_digits) × All (λ c. IsTrue (is_hex_digit c)) text
