-- What the workers have, as tables, and how many events are due.
use Rattle.std.proofs.Common.{◌≡◌, ℕ, zero, suc, ◌+◌, ◌<◌, ◌≤◌, Bool, true, false, cond, ◌==◌, List, [], ◌∷◌, length, get_or, slice_set, Option, Some, None, IsSome, refl, sym, ap, ◌∙◌, arith, true≢false}
use Rattle.std.specs.List.{sum_by}
use Rattle.std.proofs.lemmas.List.Sums.{sum_by-set}
use Rattle.pb_model.proofs.Callers.{by_cases, equal}
use Rattle.pb_machine.specs.declared.event.Grant.{Grant}
use Rattle.pb_machine.specs.Tables.{with_entry}
use Rattle.pb_machine.specs.Counts.{is_lease_of}
use Rattle.pb_lease.specs.declared.seat.Seat.{Seat}
use Rattle.pb_lease.specs.Tables.{vacant, seat_of}
use Rattle.pb_lease.specs.Kept.{due_of}
use Rattle.pb_machine.proofs.Callers.{table_at}

-- a field of each entry of a table
pub field_at : {A B : Type 0} (f : A → B) (table : ℕ → A) (i : ℕ) (v : A) (k : ℕ) → f (with_entry table i v k) ≡ with_entry (λ n. f (table n)) i (f v) k
field_at f table i v k = go (k == i)
  where
    go : (r : Bool) → f (cond r v (table k)) ≡ cond r (f v) (f (table k))
    go true = refl
    go false = refl

module _ (seats : List Seat) (worker : ℕ) (seat : Seat) (there : worker < length seats) where
  pub seat_set : {B : Type 0} (f : Seat → B) (k : ℕ) → f (seat_of (slice_set seats worker seat) k) ≡ with_entry (λ n. f (seat_of seats n)) worker (f seat) k
  seat_set f k = ap f (table_at seats worker seat vacant there k) ∙ field_at f (seat_of seats) worker seat k

  -- where the new seat has the same there
  pub seat_kept : {B : Type 0} (f : Seat → B) → f seat ≡ f (seat_of seats worker) → (k : ℕ) → f (seat_of (slice_set seats worker seat) k) ≡ f (seat_of seats k)
  seat_kept f same k = seat_set f k ∙ by_cases (k == worker)
      (λ e. ap (λ r. cond r (f seat) (f (seat_of seats k))) e ∙ same ∙ ap (λ n. f (seat_of seats n)) (sym (equal k worker e)))
      (λ e. ap (λ r. cond r (f seat) (f (seat_of seats k))) e)

  -- a bound on each seat
  pub seat_bound : (f : Seat → ℕ) (n : ℕ) → f seat ≤ n → ((k : ℕ) → f (seat_of seats k) ≤ n) → (k : ℕ) → f (seat_of (slice_set seats worker seat) k) ≤ n
  seat_bound f n new old k = by_cases (k == worker)
      (λ e. omega (arith, seat_set f k, ap (λ r. cond r (f seat) (f (seat_of seats k))) e, new))
      (λ e. omega (arith, seat_set f k, ap (λ r. cond r (f seat) (f (seat_of seats k))) e, old k))

  pub due_set : sum_by due_of (slice_set seats worker seat) + due_of (seat_of seats worker) ≡ sum_by due_of seats + due_of seat
  due_set = sum_by-set due_of seats worker seat vacant there

-- who has a lease has a place
pub seated : (seats : List Seat) (worker : ℕ) (grant : Grant) → (seat_of seats worker).grant ≡ Some grant → worker < length seats
seated [] worker grant h = let bad : ◌≡◌ {A = Option Grant} None (Some grant) = h in cc
seated (seat ∷ seats) zero grant h = omega arith
seated (seat ∷ seats) (suc worker) grant h = let rest = seated seats worker grant h in omega (arith, rest)

-- at a place that there is, the default tells nothing
pub seat_is : (seats : List Seat) (worker : ℕ) (seat : Seat) → worker < length seats → seat ≡ get_or seats worker seat → seat ≡ seat_of seats worker
seat_is [] worker seat lt is = absurd (omega arith)
seat_is (first ∷ seats) zero seat lt is = is
seat_is (first ∷ seats) (suc worker) seat lt is = seat_is seats worker seat (omega arith) is

pub grant_out : (test : ℕ → Bool) (o : Option Grant) → is_lease_of test o ≡ true → (grant : Grant) × (o ≡ Some grant)
grant_out test None h = absurd (true≢false (sym h))
grant_out test (Some grant) h = (grant, refl)

pub some_out : (o : Option Grant) → IsSome o → (grant : Grant) × (o ≡ Some grant)
some_out None h = absurd (true≢false (sym h))
some_out (Some grant) h = (grant, refl)
