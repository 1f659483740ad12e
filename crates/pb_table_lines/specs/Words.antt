-- States as words of hexadecimal digits, and words of values.
use Rattle.std.specs.Prelude.{ℕ, Bool, true, false, ◌+◌, ◌-◌, ◌*◌, ◌/◌, Option, None, Some, List, [], ◌∷◌, length, take, drop, if◌then◌else◌, nat_lt, nat_le, ◌==◌, ◌&&◌}
use Rattle.pb_packed.specs.Words.{number_of}
use Rattle.pb_lines.specs.Words.{is_digit, place_of}

-- how many words of 64 bits a state of so many digits takes, sixteen digits each
abbrev pub words_for : (digits : ℕ) → ℕ
words_for digits = (digits + 15) / 16

-- the value of a hexadecimal digit, 0 to 9 and a to f, and 16 for another byte
abbrev pub hex_value : ℕ → ℕ
hex_value b = if is_digit b then b - 48 else (if nat_le 97 b && nat_le b 102 then b - 87 else 16)

unfoldable pub hex_after : ℕ → List ℕ → Option ℕ
hex_after n [] = Some n
hex_after n (b ∷ bs) = if nat_lt (hex_value b) 16 then hex_after (n * 16 + hex_value b) bs else None

-- the state that exactly so many digits spell
abbrev pub state_of : (digits : ℕ) → List ℕ → Option ℕ
state_of digits word = if length word == digits then hex_after 0 word else None

-- the state that was read into these words, if it was
abbrev pub read_by : Bool → (words : List ℕ) → Option ℕ
read_by true words = Some (number_of words)
read_by false words = None

-- the text before the first blank, or all of it if there is none
abbrev pub word_of : List ℕ → List ℕ
word_of text = take (place_of 32 text) text

-- the text from the first blank on
abbrev pub behind_word : List ℕ → List ℕ
behind_word text = drop (place_of 32 text) text
