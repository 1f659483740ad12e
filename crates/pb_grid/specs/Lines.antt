-- Lines and words. A text, a line and a word are lists of bytes.
use Rattle.std.specs.Prelude.{◌≡◌, ◌<◌, ℕ, ◌-◌, Bool, true, false, slice_index, List, [], ◌∷◌, length, map, filter, unwrap_or, slice_get, if◌then◌else◌, nat_lt, ◌==◌, ◌||◌}
use Rattle.std.specs.List.{slice_split}
use Rattle.std.specs.Str.Lines.{strip_carriage_return}

-- ---- lines

-- a line feed, which ends a line
abbrev pub is_line_feed : (byte : ℕ) → Bool
is_line_feed byte = byte == 10

-- the parts between line feeds, except a last one without bytes
unfoldable pub without_empty_last : (parts : List (List ℕ)) → List (List ℕ)
without_empty_last [] = []
without_empty_last (part ∷ []) = if length part == 0 then [] else part ∷ []
without_empty_last (part ∷ next ∷ parts) = part ∷ without_empty_last (next ∷ parts)

-- The lines of a text. A line ends with a line feed or at the end of the text. A carriage return
-- directly before its end is no part of the line, and a last line without bytes is no line.
unfoldable pub lines_of : (text : List ℕ) → List (List ℕ)
lines_of text = map strip_carriage_return (without_empty_last (slice_split is_line_feed text))

-- the line with this number, counted from 1. A line that is missing reads as one without bytes.
abbrev pub line_at : (lines : List (List ℕ)) → (number : ℕ) → List ℕ
line_at lines number = unwrap_or (slice_get lines (number - 1)) []

-- the last byte that passes a test is here
pub record IsLastAt (test : ℕ → Bool) (bytes : List ℕ) (at : ℕ) : Type 0 where
  pub within : at < length bytes
  pub passes : test (slice_index bytes at) ≡ true
  pub others : (k : ℕ) → at < k → k < length bytes → test (slice_index bytes k) ≡ false

-- ---- words

-- a space or a tab
abbrev pub is_blank : (byte : ℕ) → Bool
is_blank byte = byte == 32 || byte == 9

abbrev pub has_bytes : (word : List ℕ) → Bool
has_bytes word = nat_lt 0 (length word)

-- the words of a line are separated by spaces and tabs
unfoldable pub words_of : (line : List ℕ) → List (List ℕ)
words_of line = filter has_bytes (slice_split is_blank line)

-- a blank line has no words
abbrev pub is_blank_line : (line : List ℕ) → Bool
is_blank_line line = length (words_of line) == 0
