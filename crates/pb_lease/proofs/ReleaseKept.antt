-- What the return of a lease keeps.
use Rattle.std.proofs.Common.{◌≡◌, ℕ, ◌+◌, ◌-◌, ◌<◌, ◌≤◌, Bool, true, false, if◌then◌else◌, not, ◌&&◌, ◌==◌, nat_lt, is_some, is_none, List, [], ◌∷◌, ◌++◌, length, get_or, slice_set, Option, Some, None, refl, sym, ap, ◌∙◌, arith, subst, length-set, append_assoc}
use Rattle.std.proofs.Math.Bool.{and-false}
use Rattle.std.proofs.lemmas.Bool.Decides.{nat_tests}
use Rattle.pb_model.proofs.Callers.{by_cases}
use Rattle.pb_machine.specs.declared.event.End.{End}
use Rattle.pb_machine.specs.declared.event.Event.{Event}
use Rattle.pb_machine.specs.declared.event.Event.TheVariants.{Release}
use Rattle.pb_machine.specs.declared.event.Grant.{Grant}
use Rattle.pb_machine.specs.Tables.{with_entry, one_if}
use Rattle.pb_machine.specs.Blocks.{interferes}
use Rattle.pb_machine.specs.Counts.{Counts, counts_after, is_busy, quota_of}
use Rattle.pb_machine.specs.Counters.{busy_count}
use Rattle.pb_machine.specs.Legality.{refusal}
use Rattle.pb_machine.specs.History.{IsHistory}
use Rattle.pb_machine.proofs.Callers.{counts_same, some_is, releases_cool_near, busy_is_counted, events_change_busy, interference_is_mutual}
use Rattle.pb_lease.specs.declared.seat.Seat.{Seat}
use Rattle.pb_lease.specs.Tables.{Table, blocks, counts_of, seat_of, rooms}
use Rattle.pb_lease.specs.Events.{ending, end_after, Adds}
use Rattle.pb_lease.specs.Kept.{IsKept, AreBusy, AreMarks, due}
use Rattle.pb_lease.proofs.EndKept.{ended_counts, end_due, reported_counts, reported_history}
use Rattle.pb_lease.proofs.LeaseKept.{lawful}
use Rattle.pb_lease.proofs.RoomKept.{LeavesRoom, event_room, report_room}
use Rattle.pb_lease.proofs.NextEvents.{history_with, release_may}
use Rattle.pb_lease.proofs.SeatLists.{seat_set, seat_kept, seat_bound, due_set}

pub no_count : (n : ℕ) → (n == 0) ≡ not (nat_lt 0 n)
no_count n = by_cases (nat_lt 0 n)
    (λ e. let some : (n == 0) ≡ false = grind (arith, nat_tests) in some ∙ sym (ap not e))
    (λ e. let none : (n == 0) ≡ true = grind (arith, nat_tests) in none ∙ sym (ap not e))

-- what becomes cold where it is near and not counted is what is not busy, where all of that is near
cooled_cases : (hot near none busy : Bool) → (hot ≡ true → none ≡ not busy) → (hot ≡ true → busy ≡ false → near ≡ true) → (hot && not (near && none)) ≡ (hot && busy)
cooled_cases false near none busy counted found = refl
cooled_cases true near none true counted found = ap (λ r. not (near && r)) (counted refl) ∙ ap not (and-false near)
cooled_cases true near none false counted found = ap (λ r. not (near && r)) (counted refl) ∙ ap (λ r. not (r && true)) (found refl refl)

module _ (t : Table) (busy near : List ℕ) (promised spare : ℕ) (k : IsKept t busy near promised spare) where
  module _ (worker used : ℕ) (memory : Bool) (own : Grant) (was : Seat) (is_was : was ≡ seat_of t.seats worker) (leased : was.grant ≡ Some own) (few : used ≤ own.quota) where
    abbrev home_counts : Counts
    home_counts = counts_after (blocks t) t.settings (counts_of t) (Release worker used memory)

    pub has_lease : (counts_of t).leases worker ≡ Some own
    has_lease = sym (ap (λ (s : Seat). s.grant) is_was) ∙ leased

    pub own_known : own.block < (blocks t).count
    own_known = ((lawful t busy near promised spare k).known worker own has_lease).1

    may : refusal (blocks t) t.settings (counts_of t) (Release worker used memory) ≡ None
    may = release_may (blocks t) t.settings (counts_of t) worker used memory own (lawful t busy near promised spare k) has_lease few refl

    -- one lease less is near the blocks of the interference
    pub fewer_near : (c : ℕ) → busy_count (blocks t) t.settings.workers home_counts.leases c + one_if (interferes (blocks t) own.block c) ≡ busy_count (blocks t) t.settings.workers (counts_of t).leases c
    fewer_near c =
        let change = events_change_busy (blocks t) t.settings (counts_of t) (Release worker used memory) c may in
        let same : change.0 ≡ own = some_is change.0 own (sym change.1 ∙ has_lease) in
        let swap : one_if (interferes (blocks t) c change.0.block) ≡ one_if (interferes (blocks t) own.block c) =
        ap (λ (g : Grant). one_if (interferes (blocks t) c g.block)) same ∙ ap one_if (interference_is_mutual (blocks t) c own.block) in
        omega (arith, change.2, swap)

    pub counted_near : (c : ℕ) → c < (blocks t).count → interferes (blocks t) own.block c ≡ true → 1 ≤ get_or busy c 0
    counted_near c lt it = let one = ap one_if it in omega (arith, k.busy_is.counted c lt, fewer_near c, one)

    module _ (fewer : List ℕ) (same : length fewer ≡ length busy) (each : (c : ℕ) → get_or fewer c 0 + one_if (interferes (blocks t) own.block c) ≡ get_or busy c 0) where
      home_busy : AreBusy (blocks t) t.settings.workers home_counts.leases fewer
      home_busy = record { places = same ∙ k.busy_is.places; counted = λ c lt. omega (arith, each c, k.busy_is.counted c lt, fewer_near c) }

      cooled_is : (cooler : List Bool) → ((c : ℕ) → get_or cooler c false ≡ (get_or t.hot c false && not (interferes (blocks t) own.block c && (get_or fewer c 0 == 0)))) → (c : ℕ) → get_or cooler c false ≡ home_counts.hot c
      cooled_is cooler cooled c = cooled c ∙ cooled_cases (get_or t.hot c false) (interferes (blocks t) own.block c) (get_or fewer c 0 == 0) (is_busy (blocks t) t.settings.workers home_counts.leases c)
          (λ e. no_count (get_or fewer c 0) ∙ ap (λ n. not (nat_lt 0 n)) (home_busy.counted c ((lawful t busy near promised spare k).hot_is_known c e).0) ∙ sym (ap not (busy_is_counted (blocks t) t.settings.workers home_counts.leases c)))
          (λ e idle. releases_cool_near (blocks t) t.settings (counts_of t) worker used c memory own (lawful t busy near promised spare k) has_lease e
          (ap (λ r. get_or t.hot c false && r) idle ∙ ap (λ r. r && false) e))

      module _ (cooler : List Bool) (cooled : (c : ℕ) → get_or cooler c false ≡ (get_or t.hot c false && not (interferes (blocks t) own.block c && (get_or fewer c 0 == 0))))
          (end : Option End) (end_is : end ≡ end_after memory t.end) (after : List Event) (there : worker < length t.seats) where
        abbrev Home : Seat
        Home = record { grant = None; room = 0; signed_off = was.signed_off }

        abbrev home_table : Table
        home_table = record t { seats = slice_set t.seats worker Home; hot = cooler; spent = t.spent + used; left = t.left + (own.quota - used); end = end; journal = after }

        home_is : counts_of home_table ≡ ended_counts memory home_counts
        home_is = counts_same (counts_of home_table) (ended_counts memory home_counts)
            (seat_set t.seats worker Home there (λ (s : Seat). s.grant)) (cooled_is cooler cooled)
            (seat_kept t.seats worker Home there (λ (s : Seat). s.signed_off) (ap (λ (s : Seat). s.signed_off) is_was)) refl
            (ap (λ (o : Option Grant). t.left + (quota_of o - used)) (sym has_lease)) end_is refl

        pub release_adds : after ≡ (t.journal ++ Release worker used memory ∷ []) ++ ending memory t.end → Adds t home_table (Release worker used memory ∷ ending memory t.end)
        release_adds is = record {
          counts = home_is ∙ sym (reported_counts (blocks t) t.settings memory home_counts refl);
          journal = is ∙ append_assoc t.journal (Release worker used memory ∷ []) (ending memory t.end);
          abstraction = refl;
          settings = refl;
          past = refl;
        }

        pub release_room : rooms home_table ≡ with_entry (rooms t) worker 0
        release_room = λ i w. seat_set t.seats worker Home there (λ (s : Seat). s.room) w i

        -- the room of the lease is among what is due
        pub room_due : was.room + 1 ≤ promised
        room_due =
            let sums = due_set t.seats worker Home there in
            let same_room = ap (λ (s : Seat). s.room) is_was in
            let out = ap (λ (o : Option Grant). if is_some o then (seat_of t.seats worker).room + 1 else 0) has_lease in
            let stayed = ap (λ (s : Seat). one_if (not s.signed_off)) is_was in
            omega (arith, k.promised_is, sums, same_room, out, stayed)

        pub release_kept : (near' : List ℕ) (ended room : ℕ) → ended ≡ one_if (memory && is_none t.end) → AreMarks (blocks t) cooler near'
            → after ≡ (t.journal ++ Release worker used memory ∷ []) ++ ending memory t.end → room + (1 + ended) ≡ spare
            → IsKept home_table fewer near' (promised - (was.room + 1 + ended)) room
        release_kept near' ended room ended_is marks is less =
            let first = history_with (blocks t) t.settings t.journal (t.journal ++ Release worker used memory ∷ []) (counts_of t) home_counts (Release worker used memory) k.history may refl refl in
            let both = reported_history (blocks t) t.settings memory home_counts (t.journal ++ Release worker used memory ∷ []) refl first in
            let sums = due_set t.seats worker Home there in
            let same_room = ap (λ (s : Seat). s.room) is_was in
            let out = ap (λ (o : Option Grant). if is_some o then (seat_of t.seats worker).room + 1 else 0) has_lease in
            let stayed = ap (λ (s : Seat). one_if (not s.signed_off)) is_was in
            let ends = end_due memory t.end in
            let end_same = ap (λ (o : Option End). one_if (is_none o)) end_is in
            let first_left : LeavesRoom (t.journal ++ Release worker used memory ∷ []) (rooms home_table) = event_room t.journal (t.journal ++ Release worker used memory ∷ []) (Release worker used memory) (rooms t) (rooms home_table) (k.within, k.left) tt release_room refl in
            let left : LeavesRoom after (rooms home_table) = report_room memory t.end (t.journal ++ Release worker used memory ∷ []) after (rooms home_table) first_left is in
            let now_due : promised ≡ due (slice_set t.seats worker Home) end + (was.room + 1 + ended) = omega (arith, k.promised_is, sums, same_room, out, stayed, ends, end_same, ended_is) in
            record {
              seats = length-set t.seats worker Home ∙ k.seats;
              rooms = seat_bound t.seats worker Home there (λ (s : Seat). s.room) 63 (omega arith) k.rooms;
              own = k.own;
              busy_is = record {
                places = home_busy.places;
                counted = λ c lt. home_busy.counted c lt ∙ sym (ap (λ (n : Counts). busy_count (blocks t) t.settings.workers n.leases c) home_is);
              };
              marks = marks;
              history = subst (λ (j : List Event). IsHistory (blocks t) t.settings t.past.spent j (counts_of home_table)) (sym is)
                  (subst (IsHistory (blocks t) t.settings t.past.spent ((t.journal ++ Release worker used memory ∷ []) ++ ending memory t.end)) (sym home_is) both);
              within = left.0;
              left = left.1;
              promised_is = omega (arith, now_due);
              room = omega (arith, k.room, less);
            }
