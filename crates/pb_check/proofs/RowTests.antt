-- The first fault of all rows by a test is at the first place that has one.
use Rattle.std.proofs.Common.{◌≡◌, ℕ, zero, suc, ◌+◌, ◌<◌, ◌≤◌, Bool, true, false, Option, None, Some, List, [], ◌∷◌, length, drop, refl, ap, ◌∙◌, arith, ◌⊎◌, inl, inr}
use Rattle.std.proofs.lemmas.Bool.{cases_lt}
use Rattle.pb_model.specs.Certificate.{Line}
use Rattle.pb_task.specs.declared.parts.TaskParts.{TaskParts}
use Rattle.pb_task.specs.Parts.{space_of}
use Rattle.pb_check.specs.declared.fault.CertificateFault.{CertificateFault}
use Rattle.pb_check.specs.declared.fault.CertificateFault.TheVariants as faults
use Rattle.pb_check.specs.declared.row_tests.RowTest.{RowTest}
use Rattle.pb_check.specs.declared.row_tests.RowTest.TheVariants.{Order, State}
use Rattle.pb_check.specs.Rows.{rises_at}
use Rattle.pb_check.specs.Judging.{unless, rows_order_fault, state_fault}
use Rattle.pb_check.specs.Pieces.{FaultPlace, IsFirstIn, earlier, IsBetween, order_fault_at, tested_at, first_tested, fault_of}
use Rattle.pb_check.proofs.Passes.{order_goes_on, order_ends, order_done}
use Rattle.pb_check.proofs.Validity.{holds}
use Rattle.pb_check.proofs.Firsts.{earlier_is_first, first_of_all_is_first_fault, first_of_fewer}

-- what has a fault does not hold, and has this fault
fails : (b : Bool) (fault found : CertificateFault) → unless b fault ≡ Some found → (b ≡ false) × (◌≡◌ {A = Option CertificateFault} (Some fault) (Some found))
fails true fault found e = absurd cc
fails false fault found e = (refl, e)

-- the order of rows that rise up to a place is judged from there on
up_to : (line : ℕ) (rows : List Line) (i : ℕ) → i < length rows → ((k : ℕ) → k < i → rises_at rows k ≡ true) → rows_order_fault line rows ≡ rows_order_fault (line + i) (drop i rows)
up_to line rows zero less up = let e : line ≡ line + 0 = omega arith in ap (λ k. rows_order_fault k rows) e
up_to line rows (suc i) less up =
    up_to line rows i (omega (arith, less)) (λ k lt. up k (omega (arith, lt))) ∙ order_goes_on line rows i less (up i (omega arith))

order_first : (line : ℕ) (rows : List Line) (found : Option FaultPlace) → IsFirstIn (order_fault_at line rows) (length rows) (λ place. Unit {0}) found → rows_order_fault line rows ≡ fault_of found
order_first line [] None h = refl
order_first line (row ∷ rows) None h =
    up_to line (row ∷ rows) (length rows) (omega arith) (λ k less. holds (rises_at (row ∷ rows) k) (faults.RowOrder (line + suc k)) (h (suc k) (omega (arith, less)) tt))
    ∙ order_done (line + length rows) (row ∷ rows) (length rows) (omega arith)
order_first line rows (Some (zero, fault)) h = absurd (let e : ◌≡◌ {A = Option CertificateFault} None (Some fault) = h.2 in cc)
order_first line rows (Some (suc place, fault)) h =
    let down = fails (rises_at rows place) (faults.RowOrder (line + suc place)) fault h.2 in
    let inside : suc place < length rows = h.0 in
    up_to line rows place (omega (arith, inside)) (λ k less. holds (rises_at rows k) (faults.RowOrder (line + suc k)) (h.3 (suc k) (omega (arith, less)) tt))
    ∙ order_ends line rows place inside down.0 ∙ down.1

-- the first fault of all rows by a test
pub tested_first : (test : RowTest) (parts : TaskParts) (line : ℕ) (rows : List Line) (found : Option FaultPlace) → IsFirstIn (tested_at test parts line rows) (length rows) (IsBetween 0 (length rows)) found
    → first_tested test parts line rows ≡ fault_of found
tested_first Order parts line rows found h =
    order_first line rows found (first_of_fewer (tested_at Order parts line rows) (length rows) (IsBetween 0 (length rows)) (λ place. Unit {0}) found (λ place less of. tt) (λ place less _. (omega arith, less)) h)
tested_first State parts line rows found h =
    first_of_all_is_first_fault (state_fault (space_of parts)) line rows found
    (first_of_fewer (tested_at State parts line rows) (length rows) (IsBetween 0 (length rows)) (λ place. Unit {0}) found (λ place less of. tt) (λ place less _. (omega arith, less)) h)

-- the first fault of two shares that lie side by side
pub first_of_both : (fault : ℕ → Option CertificateFault) (count from middle to : ℕ) (one other : Option FaultPlace) → from ≤ middle → middle ≤ to
    → IsFirstIn fault count (IsBetween from middle) one → IsFirstIn fault count (IsBetween middle to) other → IsFirstIn fault count (IsBetween from to) (earlier one other)
first_of_both fault count from middle to one other least most h k =
    earlier_is_first fault count (IsBetween from middle) (IsBetween middle to) (IsBetween from to) one other split
    (λ place b. (b.0, (let less = b.1 in omega (arith, less, most))))
    (λ place b. ((let more = b.0 in omega (arith, more, least)), b.1)) h k
  where
    split : (place : ℕ) → IsBetween from to place → IsBetween from middle place ⊎ IsBetween middle to place
    split place b = go (cases_lt place middle) where
      go : (place < middle) ⊎ (middle ≤ place) → IsBetween from middle place ⊎ IsBetween middle to place
      go (inl less) = inl (b.0, less)
      go (inr more) = inr (more, b.1)
