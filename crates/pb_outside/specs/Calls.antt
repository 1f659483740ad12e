-- The calls on the outside, with what they were given and what they gave. A list of them, in order,
-- is a transcript.
use Rattle.std.specs.Prelude.{◌≡◌, ◌⊎◌, ℕ, ◌+◌, ◌≤◌, Option, Some, List, [], ◌∷◌, ◌++◌, length, take, map, Result, Ok, Err}
use Rattle.std.specs.List.{concat, AllByRecursion}
use Rattle.pb_outside.specs.declared.shelf.Load.{Load}
use Rattle.pb_outside.specs.declared.shelf.Load.TheVariants.{Failed, TooLong, Memory}
use Rattle.pb_outside.specs.Outside.{Files, IfTold}

pub data Call : Type 0 where
  -- the file of this name, of at most so many bytes, was read, and has these
  Loaded : (name : List ℕ) → (most : ℕ) → (bytes : List ℕ) → Call
  -- it wasn't read
  LoadFailed : (name : List ℕ) → (most : ℕ) → (why : Load) → Call
  -- an empty file was begun under the name
  Created : (name : List ℕ) → Call
  -- it failed
  CreateFailed : (name : List ℕ) → Call
  -- all of the piece was appended to the file of the name
  Appended : (name piece : List ℕ) → Call
  -- it failed, and so many bytes of the piece were appended
  AppendFailed : (name piece : List ℕ) → (kept : ℕ) → Call
  -- all of the piece was put
  Put : (piece : List ℕ) → Call
  -- it failed, and so many bytes of the piece were put
  PutFailed : (piece : List ℕ) → (kept : ℕ) → Call

-- a call of `create` with its answer
abbrev pub create_call : {T E : Type 0} → (name : List ℕ) → Result T E → Call
create_call name (Ok value) = Created name
create_call name (Err error) = CreateFailed name

-- one more call
abbrev pub Notes : (old new : List Call) → Call → Type 0
Notes old new call = new ≡ old ++ call ∷ []

-- A call of `append` failed: so many bytes of the piece were appended. If the files are known, they
-- show the same.
pub record NotesAppendFailed (old new : List Call) (files files' : Option Files)
    (name piece : List ℕ) : Type 0 where
  pub kept : ℕ
  pub within : kept ≤ length piece
  pub noted : Notes old new (AppendFailed name piece kept)
  pub told : IfTold files files' (λ before after. (bytes : List ℕ) → before name ≡ Some bytes
      → after name ≡ Some (bytes ++ take kept piece))

-- A call of `put` failed: so many bytes of the piece were put. If the written bytes are known, they
-- show the same.
pub record NotesPutFailed (old new : List Call) (written written' : Option (List ℕ))
    (piece : List ℕ) : Type 0 where
  pub kept : ℕ
  pub within : kept ≤ length piece
  pub noted : Notes old new (PutFailed piece kept)
  pub told : IfTold written written' (λ before after. after ≡ before ++ take kept piece)

-- ---- a file that is saved

-- the calls that append these pieces to the file of the name, each whole
abbrev pub append_calls : (name : List ℕ) → (pieces : List (List ℕ)) → List Call
append_calls name pieces = map (λ piece. Appended name piece) pieces

-- the calls that save these pieces: a file is begun under the name, and then each is appended
abbrev pub save_calls : (name : List ℕ) → (pieces : List (List ℕ)) → List Call
save_calls name pieces = Created name ∷ append_calls name pieces

-- the piece has at least one byte
abbrev pub HasBytes : List ℕ → Type 0
HasBytes piece = 1 ≤ length piece

-- The calls save pieces that are together this text. Each piece has a byte, so there are at most as
-- many pieces as the text has bytes.
pub record SaveText (calls : List Call) (name text : List ℕ) : Type 0 where
  pub pieces : List (List ℕ)
  pub full : AllByRecursion HasBytes pieces
  pub are : calls ≡ save_calls name pieces
  pub text_is : concat pieces ≡ text

-- The calls began to save the text, up to one that failed: so many bytes of a piece were appended,
-- and all pieces before it. Each piece has a byte.
pub record BreakOff (calls : List Call) (name text : List ℕ) : Type 0 where
  pub pieces : List (List ℕ)
  pub last : List ℕ
  pub kept : ℕ
  pub rest : List ℕ
  pub full : AllByRecursion HasBytes pieces
  pub last_full : HasBytes last
  pub within : kept ≤ length last
  pub are : calls ≡ save_calls name pieces ++ AppendFailed name last kept ∷ []
  pub text_is : concat pieces ++ last ++ rest ≡ text

-- the calls began to save the text, up to one that failed: the first, or a later one
abbrev pub FailToSave : (calls : List Call) → (name text : List ℕ) → Type 0
FailToSave calls name text = (calls ≡ CreateFailed name ∷ []) ⊎ BreakOff calls name text

-- ---- promises

-- a load failed, but not by a fault of the outside
abbrev pub IsNoFault : Load → Type 0
IsNoFault Failed = ⊥
IsNoFault (TooLong seen) = Unit {0}
IsNoFault Memory = Unit {0}

-- the shelf can still load whatever it could load
abbrev pub KeepsLoads : (old new : List ℕ → Type 0) → Type 0
KeepsLoads old new = (name : List ℕ) → old name → new name

-- so many bytes of what the sink can take are used up
abbrev pub KeepsTakes : (old new : ℕ → Type 0) → (gone : ℕ) → Type 0
KeepsTakes old new gone = (n : ℕ) → old (gone + n) → new n
