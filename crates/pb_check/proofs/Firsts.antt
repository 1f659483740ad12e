-- First places with a fault.
use Rattle.std.proofs.Common.{◌≡◌, ℕ, zero, suc, ◌+◌, ◌<◌, ◌≤◌, Bool, true, false, nat_lt, List, [], ◌∷◌, length, Option, None, Some, if◌then◌else◌, refl, ap, ◌∙◌, arith, ◌⊎◌, inl, inr}
use Rattle.std.specs.List.{slice_get}
use Rattle.std.proofs.lemmas.Bool.{ltb-true, ltb-false}
use Rattle.std.specs.Option.{is_some}
use Rattle.pb_check.specs.declared.found.Found.{Found}
use Rattle.pb_model.specs.Space.{Space}
use Rattle.pb_model.specs.Certificate.{Line}
use Rattle.pb_check.specs.declared.fault.CertificateFault.{CertificateFault}
use Rattle.std.specs.Prelude.{All, IsTrue}
use Rattle.pb_check.specs.declared.fault.CertificateFault.TheVariants as faults
use Rattle.pb_check.specs.Judging.{or_then, state_fault, first_fault_by}
use Rattle.pb_check.proofs.Validity.{each, holds}
use Rattle.pb_check.specs.Pieces.{FaultPlace, IsFirstIn, earlier, fault_in, fault_at, fault_of, found_of}

-- of two first places the earlier one is the first of both kinds
pub earlier_is_first : (fault : ℕ → Option CertificateFault) (count : ℕ) (one other both : ℕ → Type 0) (first second : Option FaultPlace) → ((place : ℕ) → both place → one place ⊎ other place)
    → ((place : ℕ) → one place → both place) → ((place : ℕ) → other place → both place) → IsFirstIn fault count one first → IsFirstIn fault count other second → IsFirstIn fault count both (earlier first second)
earlier_is_first fault count one other both None None split into into' h k = λ place less of. go place less (split place of) where
  go : (place : ℕ) → place < count → one place ⊎ other place → fault place ≡ None
  go place less (inl a) = h place less a
  go place less (inr b) = k place less b
earlier_is_first fault count one other both None (Some found) split into into' h k =
    (k.0, into' found.0 k.1, k.2, λ place less of. go place less (split place of))
  where
    go : (place : ℕ) → place < found.0 → one place ⊎ other place → fault place ≡ None
    go place less (inl a) = h place (let m : found.0 < count = k.0 in omega (arith, less)) a
    go place less (inr b) = k.3 place less b
earlier_is_first fault count one other both (Some found) None split into into' h k =
    (h.0, into found.0 h.1, h.2, λ place less of. go place less (split place of))
  where
    go : (place : ℕ) → place < found.0 → one place ⊎ other place → fault place ≡ None
    go place less (inl a) = h.3 place less a
    go place less (inr b) = k place (let m : found.0 < count = h.0 in omega (arith, less)) b
earlier_is_first fault count one other both (Some found) (Some second) split into into' h k = choose (nat_lt second.0 found.0) refl where
  choose : (test : Bool) → nat_lt second.0 found.0 ≡ test → IsFirstIn fault count both (if test then Some second else Some found)
  choose true lt = (k.0, into' second.0 k.1, k.2, λ place less of. go place less (split place of)) where
    go : (place : ℕ) → place < second.0 → one place ⊎ other place → fault place ≡ None
    go place less (inl a) = h.3 place (let m : second.0 < found.0 = ltb-true second.0 found.0 lt in omega (arith, less)) a
    go place less (inr b) = k.3 place less b
  choose false ge = (h.0, into found.0 h.1, h.2, λ place less of. go place less (split place of)) where
    go : (place : ℕ) → place < found.0 → one place ⊎ other place → fault place ≡ None
    go place less (inl a) = h.3 place less a
    go place less (inr b) = k.3 place (let m : found.0 ≤ second.0 = ltb-false second.0 found.0 ge in omega (arith, less)) b

-- the first fault of a list is at its first place with a fault
pub first_of_all_is_first_fault : (fault : (line : ℕ) → Line → Option CertificateFault) (line : ℕ) (items : List Line) (found : Option FaultPlace)
    → IsFirstIn (fault_at fault line items) (length items) (λ place. Unit {0}) found → first_fault_by fault line items ≡ fault_of found
unfolding first_fault_by
first_of_all_is_first_fault fault line [] None h = refl
first_of_all_is_first_fault fault line [] (Some found) h = absurd (omega (arith, h.0))
first_of_all_is_first_fault fault line (item ∷ items) None h =
    ap (λ o. or_then o (first_fault_by fault (line + 1) items)) (ap (λ n. fault n item) (let e : line ≡ line + 0 = omega arith in e) ∙ h 0 (omega arith) tt)
    ∙ first_of_all_is_first_fault fault (line + 1) items None
    (λ place less _. ap (λ n. fault_in fault n (slice_get items place)) (let e : (line + 1) + place ≡ line + suc place = omega arith in e) ∙ h (suc place) (omega (arith, less)) tt)
first_of_all_is_first_fault fault line (item ∷ items) (Some (zero, what)) h =
    ap (λ o. or_then o (first_fault_by fault (line + 1) items)) (ap (λ n. fault n item) (let e : line ≡ line + 0 = omega arith in e) ∙ h.2)
first_of_all_is_first_fault fault line (item ∷ items) (Some (suc place, what)) h =
    ap (λ o. or_then o (first_fault_by fault (line + 1) items)) (ap (λ n. fault n item) (let e : line ≡ line + 0 = omega arith in e) ∙ h.3 0 (omega arith) tt)
    ∙ first_of_all_is_first_fault fault (line + 1) items (Some (place, what)) (
      (let m : suc place < suc (length items) = h.0 in omega arith),
      tt,
      ap (λ n. fault_in fault n (slice_get items place)) (let e : (line + 1) + place ≡ line + suc place = omega arith in e) ∙ h.2,
      λ at less _. ap (λ n. fault_in fault n (slice_get items at)) (let e : (line + 1) + at ≡ line + suc at = omega arith in e) ∙ h.3 (suc at) (omega (arith, less)) tt,
    )

-- what holds of each place of a kind holds of those of a lesser kind
pub first_of_fewer : (fault : ℕ → Option CertificateFault) (count : ℕ) (one both : ℕ → Type 0) (found : Option FaultPlace) → ((place : ℕ) → place < count → one place → both place) → ((place : ℕ) → place < count → both place → one place) → IsFirstIn fault count one found → IsFirstIn fault count both found
first_of_fewer fault count one both None into back h = λ place less of. h place less (back place less of)
first_of_fewer fault count one both (Some found) into back h =
    (h.0, into found.0 h.0 h.1, h.2, λ place less of. h.3 place less (back place (let m : found.0 < count = h.0 in omega (arith, less)) of))

-- what was found
pub is_found : (found : Option Found) → is_some found ≡ true → (what : FaultPlace) × (found_of found ≡ Some what)
is_found None e = cc
is_found (Some f) e = ((f.place, f.fault), refl)

pub is_none : (found : Option Found) → is_some found ≡ false → found_of found ≡ None
is_none None e = refl
is_none (Some f) e = cc

-- rows without a fault of this kind have states of the space
pub all_states : (space : Space) (line : ℕ) (rows : List Line) → first_fault_by (state_fault space) line rows ≡ None → All (λ (row : Line). IsTrue (space.is_state row.state)) rows
all_states space line rows none = each (state_fault space) (λ row. IsTrue (space.is_state row.state)) line rows (λ k row h. holds (space.is_state row.state) (faults.BadState k) h) none
