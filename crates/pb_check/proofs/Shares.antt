-- The pieces of the workers.
use Rattle.std.proofs.Common.{◌≡◌, ◌≢◌, ℕ, suc, ◌+◌, ◌-◌, ◌*◌, ◌/◌, ◌%◌, ◌<◌, ◌≤◌, min, List, length, Option, None, Some, refl, sym, ap, ◌∙◌, subst, arith, ◌⊎◌, inl, inr}
use Rattle.std.proofs.Math.Nat.{mul-le-mul_right, suc-mul}
use Rattle.std.proofs.lemmas.Nat.{div-add-mod', mod_below}
use Rattle.std.proofs.lemmas.Grind.{div_ceil_times}
use Rattle.std.proofs.lemmas.Bool.{cases_lt, cases_eq}
use Rattle.pb_model.specs.Certificate.{Line}
use Rattle.pb_check.specs.declared.fault.CertificateFault.{CertificateFault}
use Rattle.pb_check.specs.Judging.{first_fault_by}
use Rattle.pb_check.specs.Pieces.{FaultPlace, IsFirstIn, fault_at, fault_of, IsBetween, IsOfWorkers}
use Rattle.pb_check.proofs.Firsts.{first_of_fewer, first_of_all_is_first_fault}

-- a later turn begins a piece later, or more
later : (worker workers piece turn turns : ℕ) → 1 ≤ workers → turns < turn → (worker + turns * workers) * piece + piece ≤ (worker + turn * workers) * piece
later worker workers piece turn turns some less =
    let more : suc turns * workers ≤ turn * workers = mul-le-mul_right workers less in
    let e : suc turns * workers ≡ turns * workers + workers = suc-mul turns workers in
    let one : suc (worker + turns * workers) ≤ worker + turn * workers = omega (arith, more, e, some) in
    let up : suc (worker + turns * workers) * piece ≤ (worker + turn * workers) * piece = mul-le-mul_right piece one in
    let f : suc (worker + turns * workers) * piece ≡ (worker + turns * workers) * piece + piece = suc-mul (worker + turns * workers) piece in
    omega (arith, up, f)

abbrev pub Own : (piece workers worker place : ℕ) → Type 0
Own piece workers worker place = IsOfWorkers piece workers worker (worker + 1) place

-- the places of a worker in its turns so far have no fault
abbrev pub NoneSoFar : (fault : ℕ → Option CertificateFault) → (count piece workers worker turns : ℕ) → Type 0
NoneSoFar fault count piece workers worker turns =
    (turn rest : ℕ) → turn < turns → rest < piece → (worker + turn * workers) * piece + rest < count → fault ((worker + turn * workers) * piece + rest) ≡ None

module _ (fault : ℕ → Option CertificateFault) (count piece workers worker turns : ℕ) (some : 1 ≤ workers) (none : NoneSoFar fault count piece workers worker turns) where
  At : ℕ
  At = worker + turns * workers

  -- the place of a turn
  own : (turn rest : ℕ) → rest < piece → IsOfWorkers piece workers worker (worker + 1) ((worker + turn * workers) * piece + rest)
  own turn rest less = record { worker = worker; turn = turn; rest = rest; of = (omega arith, omega arith); within = less; is = refl }

  -- what is said of this piece is said of the worker's places before the next one
  module _ (from to : ℕ) (from_is : from ≡ (worker + turns * workers) * piece) (to_is : to ≡ from + min piece (count - from)) (inside : from < count) where
    here : (place : ℕ) → IsBetween from to place → IsOfWorkers piece workers worker (worker + 1) place
    here place b =
        let less : place - (worker + turns * workers) * piece < piece = omega (arith, from_is, to_is, inside, b.0, b.1) in
        let e : (worker + turns * workers) * piece + (place - (worker + turns * workers) * piece) ≡ place = omega (arith, from_is, b.0) in
        subst (IsOfWorkers piece workers worker (worker + 1)) e (own turns (place - (worker + turns * workers) * piece) less)

    -- a place of the worker lies in its earlier turns, in this piece, or later
    which : (place : ℕ) → place < count → IsOfWorkers piece workers worker (worker + 1) place
        → (fault place ≡ None) ⊎ (IsBetween from to place ⊎ (to ≤ place))
    which place less o = go (cases_lt o.turn turns) where
      same : o.worker ≡ worker
      same = let a = o.of.0 in let b = o.of.1 in omega (arith, a, b)

      is : place ≡ (worker + o.turn * workers) * piece + o.rest
      is = o.is ∙ ap (λ w. (w + o.turn * workers) * piece + o.rest) same

      go : (o.turn < turns) ⊎ (turns ≤ o.turn) → (fault place ≡ None) ⊎ (IsBetween from to place ⊎ (to ≤ place))
      go (inl before) = inl (ap fault is ∙ none o.turn o.rest before o.within (omega (arith, less, is)))
      go (inr after) = inr (now (cases_eq turns o.turn)) where
        now : (turns ≡ o.turn) ⊎ (turns ≢ o.turn) → IsBetween from to place ⊎ (to ≤ place)
        now (inl e) =
            let at : place ≡ from + o.rest = is ∙ ap (λ t. (worker + t * workers) * piece + o.rest) (sym e) ∙ ap (λ n. n + o.rest) (sym from_is) in
            inl ((let w = o.within in omega (arith, at)), (let w = o.within in omega (arith, at, w, to_is, less)))
        now (inr ne) =
            let up = later worker workers piece o.turn turns some (omega (arith, after, ne)) in
            inr (omega (arith, up, from_is, to_is, is))

    pub found_first : (what : Option FaultPlace) (found : FaultPlace) → what ≡ Some found → IsFirstIn fault count (IsBetween from to) what → IsFirstIn fault count (IsOfWorkers piece workers worker (worker + 1)) what
    found_first what found e h = subst (IsFirstIn fault count (IsOfWorkers piece workers worker (worker + 1))) (sym e) (
      k.0,
      here found.0 k.1,
      k.2,
      λ place less o. go place less (which place (omega (arith, less, k.0)) o),
    )
      where
        k : IsFirstIn fault count (IsBetween from to) (Some found)
        k = subst (IsFirstIn fault count (IsBetween from to)) e h

        go : (place : ℕ) → place < found.0 → (fault place ≡ None) ⊎ (IsBetween from to place ⊎ (to ≤ place)) → fault place ≡ None
        go place less (inl e) = e
        go place less (inr (inl b)) = k.3 place less b
        go place less (inr (inr over)) = let b = k.1 in absurd (omega (arith, less, over, b.0, b.1))

    pub none_on : IsFirstIn fault count (IsBetween from to) None → NoneSoFar fault count piece workers worker (turns + 1)
    none_on h turn rest less r inside' = go (cases_lt turn turns) where
      go : (turn < turns) ⊎ (turns ≤ turn) → fault ((worker + turn * workers) * piece + rest) ≡ None
      go (inl before) = none turn rest before r inside'
      go (inr after) =
          let e : turn ≡ turns = omega (arith, less, after) in
          let at : (worker + turn * workers) * piece + rest ≡ from + rest = ap (λ t. (worker + t * workers) * piece + rest) e ∙ ap (λ n. n + rest) (sym from_is) in
          h ((worker + turn * workers) * piece + rest) inside' (omega (arith, at), omega (arith, at, r, inside', to_is))

  -- with no piece left the worker's places have no fault
  pub none_left : count ≤ (worker + turns * workers) * piece → IsFirstIn fault count (IsOfWorkers piece workers worker (worker + 1)) None
  none_left over place less o = go (cases_lt o.turn turns) where
    is : place ≡ (worker + o.turn * workers) * piece + o.rest
    is = o.is ∙ ap (λ w. (w + o.turn * workers) * piece + o.rest) (let a = o.of.0 in let b = o.of.1 in let e : o.worker ≡ worker = omega (arith, a, b) in e)

    go : (o.turn < turns) ⊎ (turns ≤ o.turn) → fault place ≡ None
    go (inl before) = ap fault is ∙ none o.turn o.rest before o.within (omega (arith, less, is))
    go (inr after) =
        let up : turns * workers ≤ o.turn * workers = mul-le-mul_right workers after in
        let up' : (worker + turns * workers) * piece ≤ (worker + o.turn * workers) * piece = mul-le-mul_right piece (omega (arith, up)) in
        absurd (omega (arith, less, is, over, up'))

-- ---- pieces and their number

-- a piece that there is begins before the end
pub begins_inside : (count piece at : ℕ) → 1 ≤ piece → at < count / piece + min 1 (count % piece) → at * piece < count
begins_inside count piece at some less =
    let up : suc at * piece ≤ (count / piece + min 1 (count % piece)) * piece = mul-le-mul_right piece less in
    let e : suc at * piece ≡ at * piece + piece = suc-mul at piece in
    let low = (div_ceil_times count piece (omega (arith, some))).1 in
    omega (arith, up, e, low)

pub ends_outside : (count piece at : ℕ) → 1 ≤ piece → count / piece + min 1 (count % piece) ≤ at → count ≤ at * piece
ends_outside count piece at some over =
    let up : (count / piece + min 1 (count % piece)) * piece ≤ at * piece = mul-le-mul_right piece over in
    let low = (div_ceil_times count piece (omega (arith, some))).0 in
    omega (arith, up, low)

-- each place is in a piece of a worker
pub some_worker : (piece workers place : ℕ) → 1 ≤ piece → 1 ≤ workers → IsOfWorkers piece workers 0 workers place
some_worker piece workers place some some_workers =
    record {
      worker = (place / piece) % workers;
      turn = (place / piece) / workers;
      rest = place % piece;
      of = (omega arith, mod_below (place / piece) workers (omega (arith, some_workers)));
      within = mod_below place piece (omega (arith, some));
      is = sym (ap (λ n. n * piece + place % piece) ((let e : (place / piece) % workers + (place / piece) / workers * workers ≡ (place / piece) / workers * workers + (place / piece) % workers = omega arith in e) ∙ div-add-mod' (place / piece) workers) ∙ div-add-mod' place piece);
    }

pub first_half : (piece workers low mid high place : ℕ) → mid ≤ high → IsOfWorkers piece workers low mid place → IsOfWorkers piece workers low high place
first_half piece workers low mid high place le o = record { worker = o.worker; turn = o.turn; rest = o.rest; of = (o.of.0, (let b = o.of.1 in omega (arith, b, le))); within = o.within; is = o.is }

pub second_half : (piece workers low mid high place : ℕ) → low ≤ mid → IsOfWorkers piece workers mid high place → IsOfWorkers piece workers low high place
second_half piece workers low mid high place le o = record { worker = o.worker; turn = o.turn; rest = o.rest; of = ((let a = o.of.0 in omega (arith, a, le)), o.of.1); within = o.within; is = o.is }

pub either_half : (piece workers low mid high place : ℕ) → IsOfWorkers piece workers low high place → IsOfWorkers piece workers low mid place ⊎ IsOfWorkers piece workers mid high place
either_half piece workers low mid high place o = go (cases_lt o.worker mid) where
  go : (o.worker < mid) ⊎ (mid ≤ o.worker) → IsOfWorkers piece workers low mid place ⊎ IsOfWorkers piece workers mid high place
  go (inl less) = inl (record { worker = o.worker; turn = o.turn; rest = o.rest; of = (o.of.0, less); within = o.within; is = o.is })
  go (inr more) = inr (record { worker = o.worker; turn = o.turn; rest = o.rest; of = (more, o.of.1); within = o.within; is = o.is })

pub next_turn : (worker workers turns at : ℕ) → at ≡ worker + turns * workers → at + workers ≡ worker + (turns + 1) * workers
next_turn worker workers turns at is =
    let e : (turns + 1) * workers ≡ turns * workers + workers = (let one : turns + 1 ≡ suc turns = omega arith in ap (λ n. n * workers) one ∙ suc-mul turns workers) in
    omega (arith, is, e)

-- the first fault in the pieces of all workers is that of the list
pub all_first : (fault : (line : ℕ) → Line → Option CertificateFault) (line : ℕ) (items : List Line) (piece workers : ℕ) → 1 ≤ piece → 1 ≤ workers → (found : Option FaultPlace) → IsFirstIn (fault_at fault line items) (length items) (IsOfWorkers piece workers 0 workers) found
    → first_fault_by fault line items ≡ fault_of found
all_first fault line items piece workers some some_workers found h =
    first_of_all_is_first_fault fault line items found
    (first_of_fewer (fault_at fault line items) (length items) (IsOfWorkers piece workers 0 workers) (λ place. Unit {0}) found (λ place less of. tt) (λ place less _. some_worker piece workers place some some_workers) h)
