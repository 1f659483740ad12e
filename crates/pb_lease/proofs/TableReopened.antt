-- What the tables keep when a search is opened again.
use Rattle.std.proofs.Common.{◌≡◌, ℕ, zero, suc, ◌+◌, ◌<◌, ◌≤◌, false, is_some, List, [], length, replicate, Some, None, refl, sym, ap, ◌∙◌, subst, arith}
use Rattle.std.specs.List.{sum_by}
use Rattle.std.proofs.lemmas.List.Folds.{sum_by-replicate}
use Rattle.std.proofs.Math.ListN.{length-replicate}
use Rattle.pb_model.specs.Weight.{Weight, IsWeight}
use Rattle.pb_machine.specs.declared.event.Event.{Event}
use Rattle.pb_machine.specs.declared.settings.Settings.{Settings}
use Rattle.pb_machine.specs.Settings.{AreInRange, settings_with}
use Rattle.pb_machine.specs.Tables.{sum_below}
use Rattle.pb_machine.specs.Counts.{Counts, AreLawful, opening_counts, quota_of, quotas_out, is_any_out}
use Rattle.pb_machine.specs.History.{replay}
use Rattle.pb_machine.specs.Room.{KeepsWithinRoom}
use Rattle.pb_machine.proofs.Callers.{any_false, any_none, defaults, counts_same, counters_begin_at_none, histories_are_lawful, none_leased, none_out_none_hot}
use Rattle.pb_lease.specs.declared.seat.Seat.{Seat}
use Rattle.pb_lease.specs.Tables.{Table, vacant, seat_of, blocks, counts_of, past_after}
use Rattle.pb_lease.specs.Kept.{IsKept, due_of}

sum_none : (n : ℕ) (f : ℕ → ℕ) → ((i : ℕ) → i < n → f i ≡ 0) → sum_below n f ≡ 0
sum_none zero f h = refl
sum_none (suc n) f h = let rest = sum_none n f (λ i lt. h i (omega arith)) in let here = h n (omega arith) in omega arith

-- the settings stay in range with another weight
pub range_with : (settings : Settings) (weight : Weight) → AreInRange settings → IsWeight weight → AreInRange (settings_with settings weight settings.pattern)
range_with settings weight range heavy = record {
  workers = range.workers;
  weight = heavy;
  budget = range.budget;
  lot = range.lot;
  wish = range.wish;
  pattern = range.pattern;
}

module _ (t : Table) (busy near : List ℕ) (promised spare : ℕ) (k : IsKept t busy near promised spare) (home : is_any_out t.settings.workers (counts_of t).leases ≡ false) where
  lawful : AreLawful (blocks t) t.settings (counts_of t)
  lawful = histories_are_lawful (blocks t) t.settings t.past.spent t.journal (counts_of t) k.history

  quotas : quotas_out t.settings.workers (counts_of t).leases ≡ 0
  quotas = sum_none t.settings.workers (λ w. quota_of ((counts_of t).leases w))
      (λ w lt. ap quota_of (none_leased ((counts_of t).leases w) (any_none t.settings.workers w (λ n. is_some ((counts_of t).leases n)) home lt)))

  whole : t.spent + t.left ≡ t.settings.budget
  whole = let sum : t.spent + quotas_out t.settings.workers (counts_of t).leases + t.left ≡ t.settings.budget = lawful.sum in omega (arith, sum, quotas)

  module _ (weight : Weight) (heavy : IsWeight weight) (seats : List Seat) (seats_are : seats ≡ replicate (length t.seats) vacant) (journal : List Event) (journal_is : journal ≡ []) where
    abbrev again : Table
    again = record { abstraction = t.abstraction; settings = settings_with t.settings weight t.settings.pattern; past = past_after t; seats = seats; hot = t.hot; spent = t.spent; left = t.left; end = None; journal = journal }

    seat_at : (w : ℕ) → seat_of seats w ≡ vacant
    seat_at w = ap (λ (s : List Seat). seat_of s w) seats_are ∙ defaults (length t.seats) w vacant

    pub rooms_are : (w : ℕ) → (seat_of seats w).room ≡ 0
    rooms_are w = ap (λ (s : Seat). s.room) (seat_at w)

    pub again_counts : counts_of again ≡ opening_counts again.settings t.spent
    again_counts = counts_same (counts_of again) (opening_counts again.settings t.spent) (λ w. ap (λ (s : Seat). s.grant) (seat_at w)) (none_out_none_hot (blocks t) t.settings (counts_of t) lawful home)
        (λ w. ap (λ (s : Seat). s.signed_off) (seat_at w)) refl (omega (arith, whole)) refl refl

    none_now : is_any_out t.settings.workers (counts_of again).leases ≡ false
    none_now = any_false t.settings.workers (λ w. is_some ((counts_of again).leases w)) (λ w. ap (λ (s : Seat). is_some s.grant) (seat_at w))

    pub again_kept : (due room : ℕ) → due ≡ length t.seats + 1 → due ≤ room → IsKept again busy near due room
    again_kept due room due_is enough = record {
      seats = ap (λ (s : List Seat). length s) seats_are ∙ length-replicate (length t.seats) vacant ∙ k.seats;
      rooms = λ w. let none = rooms_are w in omega (arith, none);
      own = k.own;
      busy_is = record {
        places = k.busy_is.places;
        counted = λ c lt. k.busy_is.counted c lt ∙ (counters_begin_at_none (blocks t) t.settings.workers (counts_of t).leases (counts_of t).hot c).0 home
            ∙ sym ((counters_begin_at_none (blocks t) t.settings.workers (counts_of again).leases (counts_of again).hot c).0 none_now);
      };
      marks = k.marks;
      history = record {
        range = range_with t.settings weight k.history.range heavy;
        enough = omega (arith, whole);
        replays = ap (λ (j : List Event). replay (blocks t) again.settings (opening_counts again.settings t.spent) j) journal_is ∙ ap (λ (n : Counts). Some n) (sym again_counts);
      };
      within = subst KeepsWithinRoom (sym journal_is) tt;
      left = λ w. let none = rooms_are w in omega (arith, none);
      promised_is = let sums = ap (λ (s : List Seat). sum_by due_of s) seats_are ∙ sum_by-replicate due_of (length t.seats) vacant in omega (arith, due_is, sums);
      room = enough;
    }
