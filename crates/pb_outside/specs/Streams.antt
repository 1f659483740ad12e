-- What reading to the end and writing all do to the known bytes of a reader and a writer.
use Rattle.std.specs.Prelude.{◌≡◌, ℕ, ◌<◌, ◌≤◌, Option, List, length, take, IfSome}
use Rattle.std.specs.Io.KnownBytes.{Appends, Consumes}
use Rattle.pb_outside.specs.Calls.{Call, AppendFailed, PutFailed, Notes}
use Rattle.pb_outside.specs.declared.shelf.Load.{Load}
use Rattle.pb_outside.specs.declared.shelf.Load.TheVariants.{Failed, TooLong, Memory}

-- if the bytes were too long, there are more than `most`
abbrev pub IsLonger : ℕ → Load → List ℕ → Type 0
IsLonger most Failed all = Unit {0}
IsLonger most Memory all = Unit {0}
IsLonger most (TooLong seen) all = most < length all

-- at most so many bytes were read
abbrev pub ConsumesUpTo : Option (List ℕ) → Option (List ℕ) → ℕ → Type 0
ConsumesUpTo old new most = (bytes : List ℕ) × (length bytes ≤ most) × Consumes old new bytes

-- there is a file that has exactly these bytes to give, if its bytes are known
abbrev pub IsAllOfFile : {F : Type 0} → (F → Option (List ℕ)) → List ℕ → Type 0
IsAllOfFile {F} remaining bytes = (file : F) × IfSome (remaining file) (λ all. all ≡ bytes)

-- if a load was too long, there is a file that has more than `most` bytes to give, if its bytes are
-- known
abbrev pub IsLongerFile : {F : Type 0} → (F → Option (List ℕ)) → ℕ → Load → Type 0
IsLongerFile {F} remaining most Failed = Unit {0}
IsLongerFile {F} remaining most Memory = Unit {0}
IsLongerFile {F} remaining most (TooLong seen) =
    (file : F) × IfSome (remaining file) (λ all. most < length all)

-- a file got the bytes after those that it held, if its bytes are known
abbrev pub AppendsToFile : {F : Type 0} → (F → Option (List ℕ)) → List ℕ → Type 0
AppendsToFile {F} contents bytes =
    (old : F) × (new : F) × Appends (contents old) (contents new) bytes

-- what contracts see of a shelf of the system's files: how often it failed, and its calls
pub record FilesView : Type 0 where
  pub faults : ℕ
  pub transcript : List Call

-- what contracts see of a sink over a writer: what the writer holds if that is known, how often it
-- failed, and its calls
pub record OutView : Type 0 where
  pub contents : Option (List ℕ)
  pub faults : ℕ
  pub transcript : List Call

-- A call of `append` failed: so many bytes of the piece were appended.
pub record IsAppendFailure (old new : List Call) (name piece : List ℕ) : Type 0 where
  pub kept : ℕ
  pub within : kept ≤ length piece
  pub noted : Notes old new (AppendFailed name piece kept)

-- A call of `put` failed: so many bytes of the piece were put. If the writer's bytes are known,
-- they show the same.
pub record IsPutFailure (old new : OutView) (piece : List ℕ) : Type 0 where
  pub kept : ℕ
  pub within : kept ≤ length piece
  pub noted : Notes old.transcript new.transcript (PutFailed piece kept)
  pub written : Appends old.contents new.contents (take kept piece)
