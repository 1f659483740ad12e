-- Reading items one after another, as a loop does.
use Rattle.std.proofs.Common.{◌≡◌, ℕ, zero, suc, ◌-◌, ◌+◌, ◌≤◌, ◌<◌, List, [], ◌∷◌, ◌++◌, length, Result, Ok, Err, refl, sym, ap, ◌∙◌, append_assoc, arith}
use Rattle.std.proofs.lemmas.List.{append-nil}
use Rattle.pb_check.specs.declared.fault.CertificateFault.{CertificateFault}
use Rattle.pb_check.specs.declared.fault.CheckError.{CheckError}
use Rattle.pb_check.specs.declared.fault.CheckError.TheVariants as errors
use Rattle.pb_check.specs.Faults.{◌>>=◌, Fails}
use Rattle.pb_check.specs.Reading.{number_at, actions_at}
use Rattle.pb_check.specs.PlanLines.{actions_of}

-- what was read before, and what is still read
abbrev pub with_front : {A : Type 0} → List A → Result (List A × List ℕ) CertificateFault → Result (List A × List ℕ) CertificateFault
with_front front read = read >>= λ x. Ok (front ++ x.0, x.1)

regroup : {A : Type 0} (front : List A) (n : A) (read : Result (List A × List ℕ) CertificateFault) → with_front front (read >>= λ x. Ok (n ∷ x.0, x.1)) ≡ with_front (front ++ n ∷ []) read
regroup {A} front n (Ok x) = ap (λ (ns : List A). Ok (ns, x.1)) (simp append_assoc)
regroup front n (Err f) = refl

pub action_read : (front : List ℕ) (count i line : ℕ) (text : List ℕ) (n : ℕ) (after : List ℕ) (total : Result (List ℕ × List ℕ) CertificateFault) → i < count → number_at (line + i) [] text ≡ Ok (n, after)
    → with_front front (actions_at (count - i) (line + i) text) ≡ total → with_front (front ++ n ∷ []) (actions_at (count - (i + 1)) (line + (i + 1)) after) ≡ total
unfolding actions_at
action_read front count i line text n after total lt h so_far =
    let k : count - i ≡ suc (count - (i + 1)) = omega arith in
    let l : line + (i + 1) ≡ line + i + 1 = omega arith in
    let one : with_front front (actions_at (count - i) (line + i) text) ≡ with_front (front ++ n ∷ []) (actions_at (count - (i + 1)) (line + i + 1) after) = rw (k, h) (regroup front n (actions_at (count - (i + 1)) (line + i + 1) after)) in
    rw l (sym one ∙ so_far)

pub action_fails : (e : CheckError) (front : List ℕ) (count i line : ℕ) (text : List ℕ) (total : Result (List ℕ × List ℕ) CertificateFault) → i < count → Fails e (number_at (line + i) [] text)
    → with_front front (actions_at (count - i) (line + i) text) ≡ total → Fails e total
unfolding actions_at
action_fails errors.Memory front count i line text total lt h so_far = tt
action_fails (errors.Fault f) front count i line text total lt h so_far =
    let k : count - i ≡ suc (count - (i + 1)) = omega arith in
    let one : with_front front (actions_at (count - i) (line + i) text) ≡ Err f = rw (k, h) refl in
    sym so_far ∙ one

pub actions_done : (front : List ℕ) (count i line : ℕ) (text : List ℕ) (total : Result (List ℕ × List ℕ) CertificateFault) → count ≤ i → with_front front (actions_at (count - i) (line + i) text) ≡ total → total ≡ Ok (front, text)
unfolding actions_at
actions_done front count i line text total le so_far =
    let k : count - i ≡ 0 = omega arith in
    let one : with_front front (actions_at (count - i) (line + i) text) ≡ Ok (front, text) = rw k (ap (λ (ns : List ℕ). Ok (ns, text)) (append-nil front)) in
    sym so_far ∙ one

-- ---- the same lines, read once more

-- what is left behind the actions
abbrev behind_of : Result (List ℕ × List ℕ) CertificateFault → List ℕ
behind_of (Ok read) = read.1
behind_of (Err fault) = []

-- a loop begins with all
pub from_first : {A : Type 0} (given : ℕ → ℕ → A) (count line : ℕ) → given (count - 0) (line + 0) ≡ given count line
from_first given count line =
    let k : count - 0 ≡ count = omega arith in
    let l : line + 0 ≡ line = omega arith in
    ap (λ n. given n (line + 0)) k ∙ ap (given count) l

pub with_none : (read : Result (List ℕ × List ℕ) CertificateFault) → with_front [] read ≡ read
with_none (Ok x) = refl
with_none (Err fault) = refl

-- so many actions are read as are asked for
pub as_many : (count line : ℕ) (text : List ℕ) (read : List ℕ × List ℕ) → actions_at count line text ≡ Ok read → length read.0 ≡ count
unfolding actions_at
as_many zero line text read e = let none : ◌≡◌ {A = Result (List ℕ × List ℕ) CertificateFault} (Ok read) (Ok ([], text)) = sym e in ap length (ap actions_of none)
as_many (suc count) line text read e = go (number_at line [] text) (λ after x was. as_many count (line + 1) after x was) e where
  more : (n : ℕ) (r : Result (List ℕ × List ℕ) CertificateFault) → ((x : List ℕ × List ℕ) → r ≡ Ok x → length x.0 ≡ count) → ◌>>=◌ {B = List ℕ × List ℕ} r (λ x. Ok (n ∷ x.0, x.1)) ≡ Ok read → length read.0 ≡ suc count
  more n (Ok x) h f = ap length (ap actions_of (sym f)) ∙ ap (λ k. suc k) (h x refl)
  more n (Err fault) h f = absurd cc

  go : (r : Result (ℕ × List ℕ) CertificateFault) → ((after : List ℕ) (x : List ℕ × List ℕ) → actions_at count (line + 1) after ≡ Ok x → length x.0 ≡ count)
      → ◌>>=◌ {B = List ℕ × List ℕ} r (λ first. ◌>>=◌ {B = List ℕ × List ℕ} (actions_at count (line + 1) first.1) (λ others. Ok (first.0 ∷ others.0, others.1))) ≡ Ok read → length read.0 ≡ suc count
  go (Ok first) h f = more first.0 (actions_at count (line + 1) first.1) (h first.1) f
  go (Err fault) h f = absurd cc

-- what is left of the actions after one more is read
pub read_on : (count i line : ℕ) (text : List ℕ) (n : ℕ) (after : List ℕ) (left behind : List ℕ) → i < count → number_at (line + i) [] text ≡ Ok (n, after) → actions_at (count - i) (line + i) text ≡ Ok (left, behind)
    → (others : List ℕ) × (left ≡ n ∷ others) × (actions_at (count - (i + 1)) (line + (i + 1)) after ≡ Ok (others, behind))
unfolding actions_at
read_on count i line text n after left behind lt h e =
    let k : count - i ≡ suc (count - (i + 1)) = omega arith in
    let l : line + (i + 1) ≡ line + i + 1 = omega arith in
    let one : actions_at (count - i) (line + i) text ≡ ◌>>=◌ {B = List ℕ × List ℕ} (actions_at (count - (i + 1)) (line + i + 1) after) (λ x. Ok (n ∷ x.0, x.1)) = rw (k, h) refl in
    rw l (go (actions_at (count - (i + 1)) (line + i + 1) after) (sym one ∙ e))
  where
    go : (r : Result (List ℕ × List ℕ) CertificateFault) → ◌>>=◌ {B = List ℕ × List ℕ} r (λ x. Ok (n ∷ x.0, x.1)) ≡ Ok (left, behind) → (others : List ℕ) × (left ≡ n ∷ others) × (r ≡ Ok (others, behind))
    go (Ok x) f = (x.0, sym (ap actions_of f), ap (λ (t : List ℕ). Ok (x.0, t)) (ap behind_of f))
    go (Err fault) f = absurd cc

-- a line that was read once is read again
pub read_again : (e : CheckError) (count i line : ℕ) (text left behind : List ℕ) (total : Result (ℕ × ℕ) CertificateFault) → i < count → Fails e (number_at (line + i) [] text) → actions_at (count - i) (line + i) text ≡ Ok (left, behind) → Fails e total
unfolding actions_at
read_again errors.Memory count i line text left behind total lt h so_far = tt
read_again (errors.Fault f) count i line text left behind total lt h so_far =
    let k : count - i ≡ suc (count - (i + 1)) = omega arith in
    let one : ◌≡◌ {A = Result (List ℕ × List ℕ) CertificateFault} (actions_at (count - i) (line + i) text) (Err f) = rw (k, h) refl in
    absurd (let two : ◌≡◌ {A = Result (List ℕ × List ℕ) CertificateFault} (Err f) (Ok (left, behind)) = sym one ∙ so_far in cc)

-- no action is left behind the last
pub read_all : (count i line : ℕ) (text left behind : List ℕ) → count ≤ i → actions_at (count - i) (line + i) text ≡ Ok (left, behind) → left ≡ []
unfolding actions_at
read_all count i line text left behind le so_far =
    let k : count - i ≡ 0 = omega arith in
    let one : actions_at (count - i) (line + i) text ≡ Ok ([], text) = rw k refl in
    let two : ◌≡◌ {A = Result (List ℕ × List ℕ) CertificateFault} (Ok (left, behind)) (Ok ([], text)) = sym so_far ∙ one in ap actions_of two
