-- The lines of a text by their numbers, and what saving them one by one does to a file and to the
-- calls.
use Rattle.std.specs.Prelude.{◌≡◌, ℕ, ◌+◌, ◌≤◌, Some, List, ◌++◌, length, slice_get}
use Rattle.pb_outside.specs.Outside.{Files}
use Rattle.pb_outside.specs.Calls.{Call}
use Rattle.pb_outside.specs.Saves.{IsWritten, HaveBegun}
use Rattle.pb_model.specs.Texts.{line, lines}

-- How many bytes a line of a saved text has at most, its line feed included. The longest is an
-- image of a table: 256 digits, and 64 values of at most 20 digits, each behind a blank.
abbrev pub longest_line : ℕ
longest_line = 1664

-- the line of this number, counted from 0, was put at the end of the piece, which grew by no more
-- than a line has
abbrev pub PutsLine : (old new : List ℕ) → List (List ℕ) → (at : ℕ) → Type 0
PutsLine old new texts at =
    (text : List ℕ) × (slice_get texts at ≡ Some text) × (new ≡ old ++ line text)
    × (length new ≤ length old + longest_line)

-- the piece is made of whole lines
abbrev pub AreLines : List ℕ → Type 0
AreLines piece = (texts : List (List ℕ)) × (piece ≡ lines texts)

-- the file, with the piece at its end, is this text and then the line of this number
abbrev pub AddsLine : Files → (name piece text : List ℕ) → List (List ℕ) → (at : ℕ) → Type 0
AddsLine files name piece text texts at =
    (added : List ℕ) × (slice_get texts at ≡ Some added)
    × IsWritten files name piece (text ++ line added)

-- the calls, with the piece after them, are to save this text and then the line of this number
abbrev pub CallForLine : (start now : List Call) → (name piece text : List ℕ) → List (List ℕ)
    → (at : ℕ) → Type 0
CallForLine start now name piece text texts at =
    (added : List ℕ) × (slice_get texts at ≡ Some added)
    × HaveBegun start now name piece (text ++ line added)
