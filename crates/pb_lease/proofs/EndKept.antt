-- What an end and a signing off keep.
use Rattle.std.proofs.Common.{◌≡◌, ℕ, ◌+◌, ◌-◌, ◌<◌, Bool, true, false, cond, if◌then◌else◌, not, ◌&&◌, ◌||◌, is_some, is_none, List, [], ◌∷◌, ◌++◌, length, slice_set, Option, Some, None, refl, sym, ap, ◌∙◌, arith, subst, append_assoc, append-nil, length-set}
use Rattle.pb_machine.specs.declared.event.End.{End}
use Rattle.pb_machine.specs.declared.event.End.TheVariants.{Memory}
use Rattle.pb_machine.specs.declared.event.Event.{Event}
use Rattle.pb_machine.specs.declared.event.Event.TheVariants.{Off, Ended}
use Rattle.pb_machine.specs.declared.settings.Settings.{Settings}
use Rattle.pb_machine.specs.Tables.{one_if}
use Rattle.pb_machine.specs.Blocks.{Blocks}
use Rattle.pb_machine.specs.Counts.{Counts, counts_after}
use Rattle.pb_machine.specs.Counters.{busy_count}
use Rattle.pb_machine.specs.Legality.{refusal}
use Rattle.pb_machine.specs.History.{IsHistory}
use Rattle.pb_model.proofs.Callers.{and_true}
use Rattle.pb_machine.proofs.Callers.{counts_same, none_end, ends_are_legal}
use Rattle.pb_lease.specs.declared.seat.Seat.{Seat}
use Rattle.pb_lease.specs.Tables.{Table, blocks, counts_of, seat_of, rooms}
use Rattle.pb_lease.specs.Events.{counts_along, ending, end_after, Adds}
use Rattle.pb_lease.specs.Kept.{IsKept, due}
use Rattle.pb_lease.proofs.RoomKept.{LeavesRoom, event_room, report_room}
use Rattle.pb_lease.proofs.NextEvents.{history_with, sign_off_may}
use Rattle.pb_lease.proofs.SeatLists.{seat_set, seat_kept, seat_bound, due_set}

-- ---- the end that follows from a report

abbrev pub ended_counts : Bool → Counts → Counts
ended_counts memory counts = record counts { end = end_after memory counts.end; trouble = false }

-- what an end takes from what is due
pub end_due : (memory : Bool) (end : Option End) → one_if (is_none (end_after memory end)) + one_if (memory && is_none end) ≡ one_if (is_none end)
end_due false None = refl
end_due false (Some e) = refl
end_due true None = refl
end_due true (Some e) = refl

module _ (of : Blocks) (settings : Settings) where
  pub reported_counts : (memory : Bool) (counts : Counts) → counts.trouble ≡ (memory && is_none counts.end)
      → counts_along of settings counts (ending memory counts.end) ≡ ended_counts memory counts
  reported_counts memory counts report = go (memory && is_none counts.end) report
    where
      go : (r : Bool) → counts.trouble ≡ r → counts_along of settings counts (cond r (Ended Memory ∷ []) []) ≡ record counts { end = cond r (Some Memory) counts.end; trouble = false }
      go true is = refl
      go false is = λ i. record counts { trouble = is i }

  pub reported_history : {before : ℕ} (memory : Bool) (counts : Counts) (journal : List Event) → counts.trouble ≡ (memory && is_none counts.end) → IsHistory of settings before journal counts
      → IsHistory of settings before (journal ++ ending memory counts.end) (ended_counts memory counts)
  reported_history {before} memory counts journal report history = go (memory && is_none counts.end) refl report
    where
      go : (r : Bool) → (memory && is_none counts.end) ≡ r → counts.trouble ≡ r → IsHistory of settings before (journal ++ cond r (Ended Memory ∷ []) []) (record counts { end = cond r (Some Memory) counts.end; trouble = false })
      go true e is = history_with of settings journal (journal ++ Ended Memory ∷ []) counts (record counts { end = Some Memory; trouble = false }) (Ended Memory) history
          ((ends_are_legal of settings counts (none_end counts.end (and_true memory (is_none counts.end) e).1)).2 is) refl refl
      go false e is = subst (λ (j : List Event). IsHistory of settings before j (record counts { trouble = false })) (sym (append-nil journal))
          (subst (IsHistory of settings before journal) (λ i. record counts { trouble = is i }) history)

module _ (t : Table) (busy near : List ℕ) (promised spare : ℕ) (k : IsKept t busy near promised spare) where
  -- ---- an end that the caller knows

  pub ended_kept : (e : End) (after : List Event) (room : ℕ) → refusal (blocks t) t.settings (counts_of t) (Ended e) ≡ None → t.end ≡ None → after ≡ t.journal ++ Ended e ∷ [] → room + 1 ≡ spare
      → IsKept (record t { end = Some e; journal = after }) busy near (promised - 1) room
  ended_kept e after room may none is one = record {
    seats = k.seats;
    rooms = k.rooms;
    own = k.own;
    busy_is = k.busy_is;
    marks = k.marks;
    history = history_with (blocks t) t.settings t.journal after (counts_of t) (counts_of (record t { end = Some e; journal = after })) (Ended e) k.history may refl is;
    within = (left after is).0;
    left = (left after is).1;
    promised_is = let was = ap (λ (o : Option End). one_if (is_none o)) none in omega (arith, k.promised_is, was);
    room = let was = ap (λ (o : Option End). one_if (is_none o)) none in omega (arith, k.room, one);
  }
    where
      left : (journal : List Event) → journal ≡ t.journal ++ Ended e ∷ [] → LeavesRoom journal (rooms t)
      left journal grows = event_room t.journal journal (Ended e) (rooms t) (rooms t) (k.within, k.left) tt refl grows

  -- ---- a worker that signs off

  module _ (worker : ℕ) (was : Seat) (is_was : was ≡ seat_of t.seats worker) (memory : Bool) (end : Option End) (end_is : end ≡ end_after memory t.end) (after : List Event) (there : worker < length t.seats) where
    abbrev Gone : Seat
    Gone = record was { signed_off = true }

    abbrev off_table : Table
    off_table = record t { seats = slice_set t.seats worker Gone; end = end; journal = after }

    off_counts : counts_of off_table ≡ ended_counts memory (counts_after (blocks t) t.settings (counts_of t) (Off worker memory))
    off_counts = counts_same (counts_of off_table) (ended_counts memory (counts_after (blocks t) t.settings (counts_of t) (Off worker memory)))
        (seat_kept t.seats worker Gone there (λ (s : Seat). s.grant) (ap (λ (s : Seat). s.grant) is_was)) (λ block. refl)
        (seat_set t.seats worker Gone there (λ (s : Seat). s.signed_off)) refl refl end_is refl

    off_room : rooms off_table ≡ rooms t
    off_room = λ i w. seat_kept t.seats worker Gone there (λ (s : Seat). s.room) (ap (λ (s : Seat). s.room) is_was) w i

    pub off_adds : after ≡ (t.journal ++ Off worker memory ∷ []) ++ ending memory t.end → Adds t off_table (Off worker memory ∷ ending memory t.end)
    off_adds is = record {
      counts = off_counts ∙ sym (reported_counts (blocks t) t.settings memory (counts_after (blocks t) t.settings (counts_of t) (Off worker memory)) refl);
      journal = is ∙ append_assoc t.journal (Off worker memory ∷ []) (ending memory t.end);
      abstraction = refl;
      settings = refl;
      past = refl;
    }

    pub off_kept : (ended room : ℕ) → ended ≡ one_if (memory && is_none t.end) → worker < t.settings.workers → (counts_of t).leases worker ≡ None → (counts_of t).signed_off worker ≡ false
        → (memory || is_some t.end) ≡ true → after ≡ (t.journal ++ Off worker memory ∷ []) ++ ending memory t.end → room + (1 + ended) ≡ spare
        → IsKept off_table busy near (promised - (1 + ended)) room
    off_kept ended room ended_is inside vacant stays cause is fewer =
        let may = sign_off_may (blocks t) t.settings (counts_of t) worker memory inside stays vacant refl cause in
        let first = history_with (blocks t) t.settings t.journal (t.journal ++ Off worker memory ∷ []) (counts_of t) (counts_after (blocks t) t.settings (counts_of t) (Off worker memory)) (Off worker memory) k.history may refl refl in
        let both = reported_history (blocks t) t.settings memory (counts_after (blocks t) t.settings (counts_of t) (Off worker memory)) (t.journal ++ Off worker memory ∷ []) refl first in
        let sums = due_set t.seats worker Gone there in
        let stayed = ap (λ r. one_if (not r)) stays in
        let same_room = ap (λ (s : Seat). s.room) is_was in
        let same_due : (if is_some was.grant then was.room + 1 else 0) ≡ (if is_some (seat_of t.seats worker).grant then (seat_of t.seats worker).room + 1 else 0) = ap (λ (s : Seat). if is_some s.grant then s.room + 1 else 0) is_was in
        let ends = end_due memory t.end in
        let end_same = ap (λ (o : Option End). one_if (is_none o)) end_is in
        let stay : rooms off_table ≡ rooms t = off_room in
        let first_left : LeavesRoom (t.journal ++ Off worker memory ∷ []) (rooms off_table) = event_room t.journal (t.journal ++ Off worker memory ∷ []) (Off worker memory) (rooms t) (rooms off_table) (k.within, k.left) tt stay refl in
        let left : LeavesRoom after (rooms off_table) = report_room memory t.end (t.journal ++ Off worker memory ∷ []) after (rooms off_table) first_left is in
        let now_due : promised ≡ due (slice_set t.seats worker Gone) end + (1 + ended) = omega (arith, k.promised_is, sums, stayed, same_due, ends, end_same, ended_is) in
        record {
          seats = length-set t.seats worker Gone ∙ k.seats;
          rooms = seat_bound t.seats worker Gone there (λ (s : Seat). s.room) 63 (omega (arith, same_room, k.rooms worker)) k.rooms;
          own = k.own;
          busy_is = record {
            places = k.busy_is.places;
            counted = λ c lt. k.busy_is.counted c lt ∙ sym (ap (λ (n : Counts). busy_count (blocks t) t.settings.workers n.leases c) off_counts);
          };
          marks = k.marks;
          history = subst (λ (j : List Event). IsHistory (blocks t) t.settings t.past.spent j (counts_of off_table)) (sym is)
              (subst (IsHistory (blocks t) t.settings t.past.spent ((t.journal ++ Off worker memory ∷ []) ++ ending memory t.end)) (sym off_counts) both);
          within = left.0;
          left = left.1;
          promised_is = omega (arith, now_due);
          room = omega (arith, k.room, fewer);
        }
