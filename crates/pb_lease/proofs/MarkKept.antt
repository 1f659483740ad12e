-- What a hot mark, and a mark taken away, keep.
use Rattle.std.proofs.Common.{◌≡◌, ℕ, ◌+◌, ◌-◌, ◌<◌, Bool, true, false, cond, if◌then◌else◌, not, ◌&&◌, ◌||◌, ◌==◌, is_some, nat_lt, List, [], ◌∷◌, ◌++◌, length, get_or, slice_set, Option, Some, None, refl, sym, ap, ◌∙◌, arith, length-set}
use Rattle.pb_model.proofs.Callers.{and_true, not_true, below}
use Rattle.pb_machine.specs.declared.event.Event.{Event}
use Rattle.pb_machine.specs.declared.event.Event.TheVariants.{Hot, Cold}
use Rattle.pb_machine.specs.declared.event.Grant.{Grant}
use Rattle.pb_machine.specs.Tables.{with_entry, one_if}
use Rattle.pb_machine.specs.Counts.{counts_after}
use Rattle.pb_machine.specs.Counters.{busy_count}
use Rattle.pb_machine.specs.Legality.{refusal}
use Rattle.pb_machine.specs.Room.{room_with, HasRoom}
use Rattle.pb_machine.proofs.Callers.{counts_same, none_end, table_at}
use Rattle.pb_lease.specs.declared.seat.Seat.{Seat}
use Rattle.pb_lease.specs.Tables.{Table, blocks, counts_of, seat_of, rooms}
use Rattle.pb_lease.specs.Marking.{may_be_marked, may_be_cooled}
use Rattle.pb_lease.specs.Kept.{IsKept, AreMarks}
use Rattle.pb_lease.proofs.RoomKept.{LeavesRoom, event_room}
use Rattle.pb_lease.proofs.LeaseKept.{lawful, busy_same}
use Rattle.pb_lease.proofs.NextEvents.{history_with, mark_may, cold_may}
use Rattle.pb_lease.proofs.SeatLists.{seat_set, seat_kept, seat_bound, due_set}

-- the parts of a test that holds
six_hold : (a b c d e f : Bool) → (a && b && c && d && e && f) ≡ true → (a ≡ true) × (b ≡ true) × (c ≡ true) × (d ≡ true)
six_hold a b c d e f h =
    let h5 = and_true _ _ h in
    let h4 = and_true _ _ h5.0 in
    let h3 = and_true _ _ h4.0 in
    let h2 = and_true _ _ h3.0 in
    let h1 = and_true _ _ h2.0 in
    (h1.0, h1.1, h2.1, h3.1)

-- there is room where a block may be marked, or its mark be taken away
pub marked_room : (t : Table) (worker block : ℕ) (outranked : Bool) → may_be_marked t worker block outranked ≡ true → 0 < rooms t worker
marked_room t worker block outranked test = below 0 (rooms t worker) (and_true _ (nat_lt 0 (rooms t worker)) test).1

pub cooled_room : (t : Table) (worker block : ℕ) → may_be_cooled t worker block ≡ true → 0 < rooms t worker
cooled_room t worker block test = below 0 (rooms t worker) (and_true _ (nat_lt 0 (rooms t worker)) test).1

-- a list of marks after one more, where some were taken away
pub hotter_is : (hot cooled : List Bool) (block : ℕ) (near : ℕ → Bool) → block < length cooled → ((c : ℕ) → get_or cooled c false ≡ (get_or hot c false && not (near c)))
    → (c : ℕ) → get_or (slice_set cooled block true) c false ≡ ((c == block) || (get_or hot c false && not (near c)))
hotter_is hot cooled block near there each c = table_at cooled block true false there c ∙ go (c == block)
  where
    go : (r : Bool) → cond r true (get_or cooled c false) ≡ (r || (get_or hot c false && not (near c)))
    go true = refl
    go false = each c

-- after one less
pub colder_is : (hot : List Bool) (block : ℕ) → block < length hot → (c : ℕ) → get_or (slice_set hot block false) c false ≡ (get_or hot c false && not (c == block))
colder_is hot block there c = table_at hot block false false there c ∙ go (c == block) (get_or hot c false)
  where
    go : (r h : Bool) → cond r false h ≡ (h && not r)
    go true true = refl
    go true false = refl
    go false true = refl
    go false false = refl

module _ (t : Table) (busy near : List ℕ) (promised spare : ℕ) (k : IsKept t busy near promised spare) where
  module _ (worker : ℕ) (was : Seat) (is_was : was ≡ seat_of t.seats worker) (own : Grant) (has : (counts_of t).leases worker ≡ Some own) (after : List Event) (there : worker < length t.seats) (hotter : List Bool) where
    abbrev Marker : Seat
    Marker = record was { room = was.room - 1 }

    abbrev marked_table : Table
    marked_table = record t { seats = slice_set t.seats worker Marker; hot = hotter; journal = after }

    leases_same : (w : ℕ) → (counts_of marked_table).leases w ≡ (counts_of t).leases w
    leases_same = seat_kept t.seats worker Marker there (λ (s : Seat). s.grant) (ap (λ (s : Seat). s.grant) is_was)

    pub marked_counts : (heat : ℕ → Bool) → ((c : ℕ) → get_or hotter c false ≡ heat c) → counts_of marked_table ≡ record (counts_of t) { hot = heat }
    marked_counts heat each = counts_same (counts_of marked_table) (record (counts_of t) { hot = heat }) leases_same each
        (seat_kept t.seats worker Marker there (λ (s : Seat). s.signed_off) (ap (λ (s : Seat). s.signed_off) is_was)) refl refl refl refl

    pub mark_room : rooms marked_table ≡ with_entry (rooms t) worker (rooms t worker - 1)
    mark_room = λ i w. (seat_set t.seats worker Marker there (λ (s : Seat). s.room) w ∙ ap (λ (s : Seat). with_entry (rooms t) worker (s.room - 1) w) is_was) i

    pub mark_kept : (event : Event) (near' : List ℕ) (room : ℕ) → refusal (blocks t) t.settings (counts_of t) event ≡ None → counts_of marked_table ≡ counts_after (blocks t) t.settings (counts_of t) event
        → after ≡ t.journal ++ event ∷ [] → AreMarks (blocks t) hotter near' → 0 < rooms t worker → HasRoom (rooms t) event → room_with (rooms t) event ≡ with_entry (rooms t) worker (rooms t worker - 1) → room + 1 ≡ spare → IsKept marked_table busy near' (promised - 1) room
    mark_kept event near' room may counts is marks some has_room takes one =
        let sums = due_set t.seats worker Marker there in
        let same_room = ap (λ (s : Seat). s.room) is_was in
        let out = ap (λ (o : Option Grant). if is_some o then (seat_of t.seats worker).room + 1 else 0) has in
        let out_now = ap (λ (o : Option Grant). if is_some o then (was.room - 1) + 1 else 0) (ap (λ (s : Seat). s.grant) is_was ∙ has) in
        let stayed = ap (λ (s : Seat). one_if (not s.signed_off)) is_was in
        let left : LeavesRoom after (rooms marked_table) = event_room t.journal after event (rooms t) (rooms marked_table) (k.within, k.left) has_room (mark_room ∙ sym takes) is in
        record {
          seats = length-set t.seats worker Marker ∙ k.seats;
          rooms = seat_bound t.seats worker Marker there (λ (s : Seat). s.room) 63 (omega (arith, same_room, k.rooms worker)) k.rooms;
          own = k.own;
          busy_is = busy_same (blocks t) t.settings.workers (counts_of t) (counts_of marked_table) busy
              (λ c. ap (λ (leases : ℕ → Option Grant). busy_count (blocks t) t.settings.workers leases c) (λ i w. leases_same w i)) k.busy_is;
          marks = marks;
          history = history_with (blocks t) t.settings t.journal after (counts_of t) (counts_of marked_table) event k.history may counts is;
          within = left.0;
          left = left.1;
          promised_is = omega (arith, k.promised_is, sums, same_room, out, out_now, stayed, some);
          room = omega (arith, k.room, one);
        }

  pub hot_may : (worker block : ℕ) (own : Grant) (outranked : Bool) → (counts_of t).leases worker ≡ Some own → block < (blocks t).count → may_be_marked t worker block outranked ≡ true
      → refusal (blocks t) t.settings (counts_of t) (Hot worker block) ≡ None
  hot_may worker block own outranked has known test =
      let parts = six_hold _ _ _ _ _ _ test in
      mark_may (blocks t) t.settings (counts_of t) worker block own (lawful t busy near promised spare k) has refl (none_end t.end parts.0) known (not_true _ parts.1) (not_true _ parts.2) parts.3

  pub cool_may : (worker block : ℕ) (own : Grant) → (counts_of t).leases worker ≡ Some own → block < (blocks t).count → may_be_cooled t worker block ≡ true
      → refusal (blocks t) t.settings (counts_of t) (Cold worker block) ≡ None
  cool_may worker block own has known test =
      let some = and_true _ _ test in
      let parts = and_true _ _ some.0 in
      cold_may (blocks t) t.settings (counts_of t) worker block own (lawful t busy near promised spare k) has refl (none_end t.end parts.0) known parts.1
