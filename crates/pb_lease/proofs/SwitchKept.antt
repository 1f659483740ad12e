-- What a worker that goes on to another block keeps: its lease comes back, and it leases the block at once.
use Rattle.std.proofs.Common.{◌≡◌, ℕ, ◌+◌, ◌-◌, ◌<◌, ◌≤◌, zero, suc, min, Bool, true, false, not, ◌&&◌, ◌==◌, is_some, List, [], ◌∷◌, ◌++◌, length, get_or, slice_set, Option, Some, None, refl, sym, ap, ◌∙◌, arith, subst, length-set, append-nil, append_assoc, true≢false}
use Rattle.pb_model.proofs.Callers.{and_true, by_cases, equal_self}
use Rattle.pb_machine.specs.declared.event.Event.{Event}
use Rattle.pb_machine.specs.declared.event.Event.TheVariants.{Lease, Release}
use Rattle.pb_machine.specs.declared.event.Grant.{Grant}
use Rattle.pb_machine.specs.declared.settings.Settings.{Settings}
use Rattle.pb_machine.specs.Tables.{with_entry, one_if}
use Rattle.pb_machine.specs.Blocks.{Blocks, interferes}
use Rattle.pb_machine.specs.Counts.{Counts, counts_after, quota_of, is_near_hot}
use Rattle.pb_machine.specs.Choice.{counts_with_lease_home}
use Rattle.pb_machine.proofs.Callers.{any_none, any_some, entry_here}
use Rattle.pb_lease.specs.declared.seat.Seat.{Seat}
use Rattle.pb_lease.specs.Tables.{Table, blocks, counts_of, seat_of, rooms}
use Rattle.pb_lease.specs.Events.{Adds}
use Rattle.pb_lease.specs.Leasing.{can_be_leased}
use Rattle.pb_lease.specs.Kept.{IsKept, AreMarks}
use Rattle.pb_lease.proofs.SeatLists.{seat_set}
use Rattle.pb_lease.proofs.GraphBasics.{passes_from, passes_to}
use Rattle.pb_lease.proofs.LeaseKept.{lawful, lease_kept, lease_adds}
use Rattle.pb_lease.proofs.ReleaseKept.{has_lease, release_kept, release_adds, room_due}

-- a hot block that becomes cold forbids no lease
cooler_still : (of : Blocks) (hot busy : ℕ → Bool) (block : ℕ) → is_near_hot of hot block ≡ false → is_near_hot of (λ other. hot other && busy other) block ≡ false
cooler_still of hot busy block cold = by_cases (is_near_hot of (λ other. hot other && busy other) block)
    (λ e. let found = any_some of.count (λ other. interferes of block other && (hot other && busy other)) e in
    let both = and_true _ _ found.2 in
    let is_hot = and_true _ _ both.1 in
    absurd (true≢false (sym (ap (λ r. r && hot found.0) both.0 ∙ is_hot.0) ∙ any_none of.count found.0 (λ other. interferes of block other && hot other) cold found.1)))
    (λ e. e)

-- what can be leased with the lease home can be leased after its release
pub outlives : (of : Blocks) (settings : Settings) (counts : Counts) (worker used block : ℕ) (memory : Bool) → can_be_leased of settings (counts_with_lease_home counts worker used) block ≡ true
    → can_be_leased of settings (counts_after of settings counts (Release worker used memory)) block ≡ true
outlives of settings counts worker used block memory test =
    let parts = passes_from of settings (counts_with_lease_home counts worker used) block test in
    let after = counts_after of settings counts (Release worker used memory) in
    passes_to of settings after block parts.0 (cooler_still of counts.hot _ block parts.1) parts.2 parts.3

set_twice : (seats : List Seat) (i : ℕ) (a b : Seat) → slice_set (slice_set seats i a) i b ≡ slice_set seats i b
set_twice [] i a b = refl
set_twice (s ∷ seats) zero a b = refl
set_twice (s ∷ seats) (suc i) a b = ap (λ (rest : List Seat). s ∷ rest) (set_twice seats i a b)

module _ (t : Table) (busy near : List ℕ) (promised spare : ℕ) (k : IsKept t busy near promised spare) (worker used : ℕ) (own : Grant) (was : Seat) (is_was : was ≡ seat_of t.seats worker) (leased : was.grant ≡ Some own) (few : used ≤ own.quota)
    (fewer : List ℕ) (same : length fewer ≡ length busy) (each : (c : ℕ) → get_or fewer c 0 + one_if (interferes (blocks t) own.block c) ≡ get_or busy c 0)
    (cooler : List Bool) (cooled : (c : ℕ) → get_or cooler c false ≡ (get_or t.hot c false && not (interferes (blocks t) own.block c && (get_or fewer c 0 == 0)))) (there : worker < length t.seats) where
  abbrev Home : Seat
  Home = record { grant = None; room = 0; signed_off = was.signed_off }

  abbrev home_journal : List Event
  home_journal = (t.journal ++ Release worker used false ∷ []) ++ []

  -- the tables between both events
  abbrev mid : Table
  mid = record t { seats = slice_set t.seats worker Home; hot = cooler; spent = t.spent + used; left = t.left + (own.quota - used); journal = home_journal }

  mid_adds : Adds t mid (Release worker used false ∷ [])
  mid_adds = release_adds t busy near promised spare k worker used false own was is_was leased few fewer same each cooler cooled t.end refl home_journal there refl

  pub two_due : 1 < rooms t worker → (was.room + 1 ≤ promised) × (1 < was.room)
  two_due some = let same_room = ap (λ (s : Seat). s.room) is_was in
      (room_due t busy near promised spare k worker used false own was is_was leased few fewer same each cooler cooled t.end refl home_journal there, omega (arith, some, same_room))

  stays : (counts_of t).signed_off worker ≡ false
  stays = by_cases ((counts_of t).signed_off worker)
      (λ e. absurd (true≢false (ap is_some (sym (has_lease t busy near promised spare k worker used false own was is_was leased few) ∙ ((lawful t busy near promised spare k).off worker e).1))))
      (λ e. e)

  module _ (block quota : ℕ) (quota_is : quota ≡ min t.settings.lot (t.left + (own.quota - used))) (after : List Event) (is : after ≡ (t.journal ++ Release worker used false ∷ []) ++ Lease worker block quota ∷ []) (busier : List ℕ)
      (cool_near : List ℕ) (room : ℕ) (marks : AreMarks (blocks t) cooler cool_near) (less : room + 2 ≡ spare) where
    abbrev Next : Seat
    Next = record { grant = Some (record { block = block; quota = quota }); room = was.room - 2; signed_off = false }

    abbrev switched_table : Table
    switched_table = record t { seats = slice_set t.seats worker Next; hot = cooler; spent = t.spent + used; left = (t.left + (own.quota - used)) - quota; journal = after }

    abbrev with_seats : List Seat → Table
    with_seats seats = record t { seats = seats; hot = cooler; spent = t.spent + used; left = (t.left + (own.quota - used)) - quota; journal = after }

    one_seat : slice_set (slice_set t.seats worker Home) worker Next ≡ slice_set t.seats worker Next
    one_seat = set_twice t.seats worker Home Next

    still_there : worker < length mid.seats
    still_there = let long = length-set t.seats worker Home in omega (arith, there, long)

    goes_on : after ≡ home_journal ++ Lease worker block quota ∷ []
    goes_on = is ∙ ap (λ (j : List Event). j ++ Lease worker block quota ∷ []) (sym (append-nil (t.journal ++ Release worker used false ∷ [])))

    stays_there : (counts_of mid).signed_off worker ≡ false
    stays_there = ap (λ (c : Counts). c.signed_off worker) mid_adds.counts ∙ stays

    mid_kept : IsKept mid fewer cool_near (promised - (was.room + 1 + 0)) (room + 1)
    mid_kept = release_kept t busy near promised spare k worker used false own was is_was leased few fewer same each cooler cooled t.end refl home_journal there cool_near 0 (room + 1) refl marks refl (omega (arith, less))

    pub switched_kept : 1 < rooms t worker → block < (blocks t).count
        → can_be_leased (blocks t) t.settings (counts_with_lease_home (counts_of t) worker used) block ≡ true → length busier ≡ length fewer
        → ((c : ℕ) → get_or busier c 0 ≡ get_or fewer c 0 + one_if (interferes (blocks t) block c)) → IsKept switched_table busier cool_near (promised - 2) room
    switched_kept some known test long more =
        let due = two_due some in
        let small = k.rooms worker in
        let same_room = ap (λ (s : Seat). s.room) is_was in
        let left_due : (promised - (was.room + 1 + 0)) + ((was.room - 2) + 1) ≡ promised - 2 = omega (arith, due.0, due.1) in
        let vacant : (counts_of mid).leases worker ≡ None = ap (λ (c : Counts). c.leases worker) mid_adds.counts ∙ entry_here (counts_of t).leases worker worker None (equal_self worker) in
        let can : can_be_leased (blocks t) t.settings (counts_of mid) block ≡ true = subst (λ (c : Counts). can_be_leased (blocks t) t.settings c block ≡ true) (sym mid_adds.counts) (outlives (blocks t) t.settings (counts_of t) worker used block false test) in
        let inside = ((lawful t busy near promised spare k).known worker own (has_lease t busy near promised spare k worker used false own was is_was leased few)).0 in
        subst (λ n. IsKept switched_table busier cool_near n room) left_due
        (subst (λ (seats : List Seat). IsKept (with_seats seats) busier cool_near ((promised - (was.room + 1 + 0)) + ((was.room - 2) + 1)) room) one_seat
        (lease_kept mid fewer cool_near (promised - (was.room + 1 + 0)) (room + 1) mid_kept worker block quota quota_is after busier still_there (was.room - 2) room (omega (arith, small, same_room)) inside vacant stays_there known can goes_on long more
        (omega (arith, left_due, k.room, less))))

    pub switched_adds : Adds t switched_table (Release worker used false ∷ Lease worker block (min t.settings.lot (t.left + (quota_of ((counts_of t).leases worker) - used))) ∷ [])
    switched_adds =
        let second : Adds mid (with_seats (slice_set (slice_set t.seats worker Home) worker Next)) (Lease worker block (min t.settings.lot (t.left + (own.quota - used))) ∷ []) =
        lease_adds mid fewer cool_near (promised - (was.room + 1 + 0)) (room + 1) mid_kept worker block quota quota_is after busier still_there (was.room - 2) stays_there goes_on in
        let both : Adds t (with_seats (slice_set (slice_set t.seats worker Home) worker Next)) (Release worker used false ∷ Lease worker block (min t.settings.lot (t.left + (own.quota - used))) ∷ []) = record {
          counts = second.counts ∙ ap (λ (c : Counts). counts_after (blocks t) t.settings c (Lease worker block (min t.settings.lot (t.left + (own.quota - used))))) mid_adds.counts;
          journal = second.journal ∙ ap (λ (j : List Event). j ++ Lease worker block (min t.settings.lot (t.left + (own.quota - used))) ∷ []) mid_adds.journal
              ∙ append_assoc t.journal (Release worker used false ∷ []) (Lease worker block (min t.settings.lot (t.left + (own.quota - used))) ∷ []);
          abstraction = refl;
          settings = refl;
          past = refl;
        } in
        subst (λ (o : Option Grant). Adds t switched_table (Release worker used false ∷ Lease worker block (min t.settings.lot (t.left + (quota_of o - used))) ∷ [])) (sym (has_lease t busy near promised spare k worker used false own was is_was leased few))
        (subst (λ (seats : List Seat). Adds t (with_seats seats) (Release worker used false ∷ Lease worker block (min t.settings.lot (t.left + (own.quota - used))) ∷ [])) one_seat both)

    pub switched_room : rooms switched_table ≡ with_entry (rooms t) worker (rooms t worker - 2)
    switched_room = λ i w. (seat_set t.seats worker Next there (λ (s : Seat). s.room) w ∙ ap (λ (s : Seat). with_entry (rooms t) worker (s.room - 2) w) is_was) i
