-- What the calls on the outside do to it, and that a fault has a cause.
use Rattle.std.specs.Prelude.{◌≡◌, ◌≢◌, ◌⊎◌, ℕ, ◌+◌, ◌-◌, ◌^◌, ◌<◌, ◌≤◌, min, Option, None, Some, List, [], ◌++◌, length, take, Result, Ok, Err, IfSome, IfErr, OnErr}
use Rattle.pb_outside.specs.declared.shelf.Load.{Load}
use Rattle.pb_outside.specs.declared.shelf.Load.TheVariants.{Failed, TooLong, Memory}

-- files by the bytes of their names
abbrev pub Files : Type 0
Files = List ℕ → Option (List ℕ)

-- P holds of the values before and after, if they are known. A value that is known stays known, and
-- one that isn't known stays unknown, and nothing is claimed of it.
abbrev pub IfTold : {A : Type 0} → Option A → Option A → (A → A → Type 0) → Type 0
IfTold None None P = Unit {0}
IfTold (Some old) (Some new) P = P old new
IfTold None (Some new) P = ⊥
IfTold (Some old) None P = ⊥

-- new is old with the bytes at its end
abbrev pub Appends : List ℕ → List ℕ → List ℕ → Type 0
Appends old new bytes = new ≡ old ++ bytes

-- new is old with a first part of the bytes at its end
abbrev pub AppendsPart : List ℕ → List ℕ → List ℕ → Type 0
AppendsPart old new bytes = (kept : ℕ) × (kept ≤ length bytes) × (new ≡ old ++ take kept bytes)

-- a count with one more, which stops at the last number of its type
abbrev pub counted : ℕ → ℕ
counted n = min (n + 1) (2 ^ 64 - 1)

-- the count is higher, or at the last number of its type
abbrev pub Rose : ℕ → ℕ → Type 0
Rose before now = counted before ≤ now

-- the count hasn't fallen, and an error comes only if it rose
pub record HasCause {T E : Type 0} (before now : ℕ) (result : Result T E) : Type 0 where
  pub later : before ≤ now
  pub failed : OnErr result (Rose before now)

-- of a load only one error is a fault
abbrev pub LoadRose : Load → ℕ → ℕ → Type 0
LoadRose Failed before now = Rose before now
LoadRose (TooLong seen) before now = Unit {0}
LoadRose Memory before now = Unit {0}

pub record HasLoadCause {T : Type 0} (before now : ℕ) (result : Result T Load) : Type 0 where
  pub later : before ≤ now
  pub failed : IfErr result (λ e. LoadRose e before now)

-- the count after a call: one more after an error, and else the same
abbrev pub count_after : {T E : Type 0} → ℕ → Result T E → ℕ
count_after before (Ok value) = before
count_after before (Err error) = counted before

-- the count after a load: only one error of a load is a fault
abbrev pub count_after_load : {T : Type 0} → ℕ → Result T Load → ℕ
count_after_load before (Ok value) = before
count_after_load before (Err Failed) = counted before
count_after_load before (Err (TooLong seen)) = before
count_after_load before (Err Memory) = before

-- all files but this one stay
abbrev pub KeepsOthers : Files → Files → List ℕ → Type 0
KeepsOthers old new name = (other : List ℕ) → other ≢ name → new other ≡ old other

-- all files stay
abbrev pub KeepsAll : Files → Files → Type 0
KeepsAll old new = (name : List ℕ) → new name ≡ old name

-- the shelf can still hold whatever it could hold
abbrev pub KeepsHolds : (List ℕ → ℕ → Type 0) → (List ℕ → ℕ → Type 0) → Type 0
KeepsHolds old new = (name : List ℕ) (n : ℕ) → old name n → new name n

-- P holds if the file is there and the shelf can hold so many bytes more after its bytes
abbrev pub IfHeld : Option Files → List ℕ → ℕ → (ℕ → Type 0) → Type 0 → Type 0
IfHeld files name more holds P =
    IfSome files (λ told. IfSome (told name) (λ bytes.
    (n : ℕ) → holds n → length bytes + more ≤ n → P))

-- of a load that was too long: the file is longer than `most`
abbrev pub IsTooLong : Files → List ℕ → ℕ → Load → Type 0
IsTooLong files name most Failed = Unit {0}
IsTooLong files name most Memory = Unit {0}
IsTooLong files name most (TooLong seen) =
    (bytes : List ℕ) × (files name ≡ Some bytes) × (most < length bytes)

-- and one byte more than `most` was seen of it
abbrev pub SeesOneMore : ℕ → Load → Type 0
SeesOneMore most Failed = Unit {0}
SeesOneMore most Memory = Unit {0}
SeesOneMore most (TooLong seen) = seen ≡ most + 1

-- after a creation that failed the file is as before, or empty
abbrev pub IsSameOrEmpty : Files → Files → List ℕ → Type 0
IsSameOrEmpty old new name = (new name ≡ old name) ⊎ (new name ≡ Some [])

-- the file was there, and the piece comes after the bytes that it had
abbrev pub AppendsTo : Files → Files → List ℕ → List ℕ → Type 0
AppendsTo old new name piece =
    (bytes : List ℕ) × (old name ≡ Some bytes) × (new name ≡ Some (bytes ++ piece))

-- a first part of the piece comes after the bytes that the file had; if there was no file, there is
-- none
pub record AppendsPartTo (old new : Files) (name piece : List ℕ) : Type 0 where
  pub there : (bytes : List ℕ) → old name ≡ Some bytes → (kept : ℕ) × (kept ≤ length piece)
      × (new name ≡ Some (bytes ++ take kept piece))
  pub absent : old name ≡ None → new name ≡ None
