-- Rows that are judged in pieces by several workers at once.
use Rattle.std.specs.Prelude.{◌≡◌, ℕ, zero, suc, ◌+◌, ◌*◌, ◌<◌, ◌≤◌, List, Option, None, Some, if◌then◌else◌, nat_lt, slice_get}
use Rattle.pb_model.specs.Weight.{Weight}
use Rattle.pb_model.specs.Certificate.{Line}
use Rattle.pb_task.specs.declared.parts.TaskParts.{TaskParts}
use Rattle.pb_task.specs.Parts.{space_of}
use Rattle.pb_estimate.specs.Choices.{Choice}
use Rattle.pb_estimate.specs.Estimates.{estimate_by}
use Rattle.pb_check.specs.declared.fault.CertificateFault.{CertificateFault}
use Rattle.pb_check.specs.declared.found.Found.{Found}
use Rattle.pb_check.specs.declared.fault.CertificateFault.TheVariants as faults
use Rattle.pb_check.specs.declared.row_tests.RowTest.{RowTest}
use Rattle.pb_check.specs.declared.row_tests.RowTest.TheVariants.{Order, State}
use Rattle.pb_check.specs.Rows.{rises_at}
use Rattle.pb_check.specs.Judging.{unless, rows_order_fault, first_fault_by, state_fault, row_fault}

-- a place, and the fault of the row there
abbrev pub FaultPlace : Type 0
FaultPlace = ℕ × CertificateFault

-- the first place below `count`, among those of a kind, that has a fault, with the fault; or none
abbrev pub IsFirstIn : (fault : ℕ → Option CertificateFault) → (count : ℕ) → (of : ℕ → Type 0)
    → Option FaultPlace → Type 0
IsFirstIn fault count of None = (place : ℕ) → place < count → of place → fault place ≡ None
IsFirstIn fault count of (Some found) =
    (found.0 < count) × of found.0 × (fault found.0 ≡ Some found.1)
    × ((place : ℕ) → place < found.0 → of place → fault place ≡ None)

-- the earlier of two places
abbrev pub earlier : Option FaultPlace → Option FaultPlace → Option FaultPlace
earlier None other = other
earlier (Some one) None = Some one
earlier (Some one) (Some other) = if nat_lt other.0 one.0 then Some other else Some one

abbrev pub fault_in : (fault : (line : ℕ) → Line → Option CertificateFault) → (line : ℕ)
    → Option Line → Option CertificateFault
fault_in fault line None = None
fault_in fault line (Some row) = fault line row

-- the fault of the row in a place
abbrev pub fault_at : (fault : (line : ℕ) → Line → Option CertificateFault) → (line : ℕ)
    → List Line → (place : ℕ) → Option CertificateFault
fault_at fault line rows place = fault_in fault (line + place) (slice_get rows place)

-- the fault of the row in a place of a task's certificate, judged against all rows: the choice is
-- that of an estimate
abbrev pub row_fault_at : TaskParts → Choice → Weight → (best : Option ℕ) → (line : ℕ)
    → List Line → (place : ℕ) → Option CertificateFault
row_fault_at parts choice weight best line rows =
    fault_at (row_fault (space_of parts) (estimate_by parts choice) weight best rows) line rows

-- the fault of the row in a place if its state is not above that of the row before it
abbrev pub order_fault_at : (line : ℕ) → List Line → (place : ℕ) → Option CertificateFault
order_fault_at line rows zero = None
order_fault_at line rows (suc place) =
    unless (rises_at rows place) (faults.RowOrder (line + suc place))

-- the fault of the row in a place if its state is none of the task
abbrev pub state_fault_at : TaskParts → (line : ℕ) → List Line → (place : ℕ)
    → Option CertificateFault
state_fault_at parts line rows = fault_at (state_fault (space_of parts)) line rows

-- the fault of the row in a place by a test
abbrev pub tested_at : RowTest → TaskParts → (line : ℕ) → List Line → (place : ℕ)
    → Option CertificateFault
tested_at Order parts line rows place = order_fault_at line rows place
tested_at State parts line rows place = state_fault_at parts line rows place

-- the first fault of all rows by a test
abbrev pub first_tested : RowTest → TaskParts → (line : ℕ) → List Line → Option CertificateFault
first_tested Order parts line rows = rows_order_fault line rows
first_tested State parts line rows = first_fault_by (state_fault (space_of parts)) line rows

abbrev pub fault_of : Option FaultPlace → Option CertificateFault
fault_of None = None
fault_of (Some found) = Some found.1

abbrev pub found_of : Option Found → Option FaultPlace
found_of None = None
found_of (Some found) = Some (found.place, found.fault)

-- the place lies between these
abbrev pub IsBetween : (from to place : ℕ) → Type 0
IsBetween from to place = (from ≤ place) × (place < to)

-- The place is in a piece of one of the workers from `low` on and before `high`. Worker i of so
-- many has the pieces i, i + workers, i + 2 * workers, and so on.
pub record IsOfWorkers (piece workers low high place : ℕ) : Type 0 where
  pub worker : ℕ
  pub turn : ℕ
  pub rest : ℕ
  pub of : (low ≤ worker) × (worker < high)
  pub within : rest < piece
  pub is : place ≡ (worker + turn * workers) * piece + rest

-- fewer rows aren't worth a thread of their own
abbrev pub rows_a_thread : ℕ
rows_a_thread = 1024

-- nor are fewer bytes of text
abbrev pub bytes_a_thread : ℕ
bytes_a_thread = 65536
