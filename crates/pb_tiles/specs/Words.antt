-- The words of a text: its longest runs of bytes that are no blanks, each with the number of its
-- line.
use Rattle.std.specs.Prelude.{ℕ, ◌+◌, Bool, ◌==◌, ◌||◌, List, [], ◌∷◌, ◌++◌, if◌then◌else◌}

-- space, tab, carriage return and line feed separate words
abbrev pub is_blank : (byte : ℕ) → Bool
is_blank byte = byte == 32 || byte == 9 || byte == 13 || byte == 10

pub record Word : Type 0 where
  pub text : List ℕ
  pub line : ℕ  -- counted from 1

-- the word that ends here, if it has bytes
abbrev pub word_end : (line : ℕ) → (word : List ℕ) → List Word
word_end line [] = []
word_end line (byte ∷ bytes) = record { text = byte ∷ bytes; line = line } ∷ []

-- the line after a byte
abbrev pub line_behind : (line byte : ℕ) → ℕ
line_behind line byte = if byte == 10 then line + 1 else line

-- the words of a text that is in this line after the first bytes of a word
abbrev pub words_behind : (line : ℕ) → (word text : List ℕ) → List Word
words_behind line word [] = word_end line word
words_behind line word (byte ∷ text) =
    if is_blank byte then word_end line word ++ words_behind (line_behind line byte) [] text
    else words_behind line (word ++ byte ∷ []) text

abbrev pub words : (text : List ℕ) → List Word
words text = words_behind 1 [] text
