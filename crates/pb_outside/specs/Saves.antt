-- What saving a text piece by piece does to the file and to the calls, and what a saved text is.
use Rattle.std.specs.Prelude.{◌≡◌, ◌⊎◌, ℕ, ◌≤◌, Option, None, Some, List, ◌++◌, length, take}
use Rattle.std.specs.List.{concat, AllByRecursion}
use Rattle.pb_outside.specs.Outside.{Files}
use Rattle.pb_outside.specs.Calls.{Call, save_calls, HasBytes, SaveText, FailToSave}

-- ---- a text that was saved, or in part

-- since the old calls the text was saved under the name
abbrev pub Saves : (old new : List Call) → (name text : List ℕ) → Type 0
Saves old new name text = (calls : List Call) × (new ≡ old ++ calls) × SaveText calls name text

-- since the old calls it began to be saved, up to one that failed
abbrev pub SavesPart : (old new : List Call) → (name text : List ℕ) → Type 0
SavesPart old new name text =
    (calls : List Call) × (new ≡ old ++ calls) × FailToSave calls name text

-- the file is a first part of the text
abbrev pub HoldsPart : Files → (name text : List ℕ) → Type 0
HoldsPart files name text = (kept : ℕ) × (kept ≤ length text) × (files name ≡ Some (take kept text))

-- the file is as before, or a first part of the text
abbrev pub IsPartSaved : (old new : Files) → (name text : List ℕ) → Type 0
IsPartSaved old new name text = (new name ≡ old name) ⊎ HoldsPart new name text

-- ---- on the way

-- the file, followed by a piece that is still to be appended, is this text
abbrev pub IsWritten : Files → (name piece text : List ℕ) → Type 0
IsWritten files name piece text =
    (bytes : List ℕ) × (files name ≡ Some bytes) × (bytes ++ piece ≡ text)

-- the shelf's known files show this
abbrev pub IsToldWritten : Option Files → (name piece text : List ℕ) → Type 0
IsToldWritten None name piece text = ⊥
IsToldWritten (Some files) name piece text = IsWritten files name piece text

-- Since the old calls the file was begun, and with a piece that is still to be appended they save
-- this text. Each piece so far has a byte.
pub record HaveBegun (old new : List Call) (name piece text : List ℕ) : Type 0 where
  pub pieces : List (List ℕ)
  pub full : AllByRecursion HasBytes pieces
  pub are : new ≡ old ++ save_calls name pieces
  pub text_is : concat pieces ++ piece ≡ text

-- whatever text was to be saved with the old piece is to be saved with the new one
abbrev pub KeepsBegun : (old new : List Call) → (name old_piece new_piece : List ℕ) → Type 0
KeepsBegun old new name old_piece new_piece =
    (start : List Call) (text : List ℕ) → HaveBegun start old name old_piece text
    → HaveBegun start new name new_piece text

-- whatever text was to be saved with the piece is saved in part
abbrev pub BreaksSave : (old new : List Call) → (name piece : List ℕ) → Type 0
BreaksSave old new name piece =
    (start : List Call) (text : List ℕ) → HaveBegun start old name piece text
    → SavesPart start new name text

-- P holds if the known file, followed by the piece, is a text that the shelf can hold
abbrev pub IfHasRoom : Option Files → (name piece : List ℕ) → (can_hold : ℕ → Type 0) → Type 0
    → Type 0
IfHasRoom files name piece can_hold P =
    (text : List ℕ) (n : ℕ) → IsToldWritten files name piece text → length text ≤ n → can_hold n → P
