-- Conditions between the parts of the program.
use Rattle.std.specs.Prelude.{ℕ, ◌≤◌, Option, None, Some, List, Result, IfErr}
use Rattle.pb_outside.specs.declared.shelf.Load.{Load}
use Rattle.pb_outside.specs.declared.shelf.Load.TheVariants as load
use Rattle.pb_outside.specs.Outside.{Rose}
use Rattle.pb_outside.specs.Calls.{Call, Loaded, LoadFailed, Notes}
use Rattle.pb_run.specs.Asked.{Wanted}
use Rattle.pb_answer.specs.declared.status.Status.{Status}
use Rattle.pb_answer.specs.declared.status.Status.TheVariants as status
use Rattle.pb_run.specs.declared.load.Fault.{Fault}
use Rattle.pb_run.specs.declared.load.Fault.TheVariants.{OutOfMemory, ShelfFailed}

-- P of a fault of the shelf
abbrev pub IfShelf : Fault → Type 0 → Type 0
IfShelf ShelfFailed P = P
IfShelf OutOfMemory P = Unit {0}

pub record FaultRose {T : Type 0} (before now : ℕ) (result : Result T Fault) : Type 0 where
  pub later : before ≤ now
  pub failed : IfErr result (λ fault. IfShelf fault (Rose before now))

-- the reason for which a file wasn't loaded
abbrev pub reason_of : Fault → Load
reason_of OutOfMemory = load.Memory
reason_of ShelfFailed = load.Failed

-- the file was loaded, or is too long
abbrev pub NotesLoad : (old new : List Call) → Wanted → (loaded : Option (List ℕ)) → Type 0
NotesLoad old new file (Some text) = Notes old new (Loaded file.name file.most text)
NotesLoad old new file None =
    (seen : ℕ) × Notes old new (LoadFailed file.name file.most (load.TooLong seen))

-- the status if nothing is answered for a reason
abbrev pub status_of : Fault → Status
status_of OutOfMemory = status.OutOfMemory
status_of ShelfFailed = status.ShelfFailed
