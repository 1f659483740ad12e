-- What a lease and a renewal keep.
use Rattle.std.proofs.Common.{◌≡◌, ℕ, ◌+◌, ◌-◌, ◌<◌, ◌≤◌, ◌^◌, min, true, false, if◌then◌else◌, not, ◌==◌, is_some, nat_lt, List, [], ◌∷◌, ◌++◌, length, get_or, slice_set, Option, Some, None, refl, sym, ap, ◌∙◌, arith, subst, length-set}
use Rattle.std.proofs.lemmas.List.{get_or_past}
use Rattle.pb_model.proofs.Callers.{by_cases, below, not_below}
use Rattle.pb_machine.specs.declared.event.Event.{Event}
use Rattle.pb_machine.specs.declared.event.Event.TheVariants.{Lease, Renew}
use Rattle.pb_machine.specs.declared.event.Grant.{Grant}
use Rattle.pb_machine.specs.Tables.{with_entry, one_if}
use Rattle.pb_machine.specs.Blocks.{Blocks, interferes}
use Rattle.pb_machine.specs.Counts.{Counts, AreLawful, counts_after, with_quota, quota_of}
use Rattle.pb_machine.specs.Counters.{busy_count}
use Rattle.pb_machine.specs.Legality.{refusal}
use Rattle.pb_machine.specs.Choice.{counts_with_lease_home}
use Rattle.pb_machine.proofs.Callers.{entry_here, entry_else, sum_with_entry, counts_same, events_change_busy, interference_is_mutual, counters_fit, histories_are_lawful}
use Rattle.pb_lease.specs.declared.seat.Seat.{Seat}
use Rattle.pb_lease.specs.Tables.{Table, blocks, counts_of, seat_of, rooms}
use Rattle.pb_lease.specs.Events.{Adds}
use Rattle.pb_lease.specs.Leasing.{can_be_leased}
use Rattle.pb_lease.specs.Kept.{IsKept, AreBusy}
use Rattle.pb_lease.proofs.RoomKept.{LeavesRoom, event_room, fewer_room}
use Rattle.pb_lease.proofs.NextEvents.{history_with, lease_may, renewal_may}
use Rattle.pb_lease.proofs.SeatLists.{seat_set, seat_kept, seat_bound, due_set}

-- the counters have room for one more
pub busy_fits : (of : Blocks) (workers : ℕ) (leases : ℕ → Option Grant) (busy : List ℕ) → AreBusy of workers leases busy → workers ≤ 64 → (c : ℕ) → get_or busy c 0 + 1 < 2 ^ 32
busy_fits of workers leases busy are few c = by_cases (nat_lt c of.count)
    (λ e. let lt = below c of.count e in omega (arith, are.counted c lt, (counters_fit of workers leases (λ b. false) c).0, few))
    (λ e. let le = not_below c of.count e in omega (arith, get_or_past busy c 0 (omega (arith, le, are.places))))

-- where the numbers of leased blocks stay
pub busy_same : (of : Blocks) (workers : ℕ) (some next : Counts) (busy : List ℕ) → ((c : ℕ) → busy_count of workers next.leases c ≡ busy_count of workers some.leases c)
    → AreBusy of workers some.leases busy → AreBusy of workers next.leases busy
busy_same of workers some next busy same are = record { places = are.places; counted = λ c lt. are.counted c lt ∙ sym (same c) }

module _ (t : Table) (busy near : List ℕ) (promised spare : ℕ) (k : IsKept t busy near promised spare) where
  pub lawful : AreLawful (blocks t) t.settings (counts_of t)
  lawful = histories_are_lawful (blocks t) t.settings t.past.spent t.journal (counts_of t) k.history

  -- a quota that is out, what was settled and what is left are within the budget
  pub quota_within : (worker : ℕ) (grant : Grant) → (counts_of t).leases worker ≡ Some grant → t.spent + grant.quota + t.left ≤ 2 ^ 40
  quota_within worker grant leased =
      let sums = sum_with_entry quota_of t.settings.workers worker (counts_of t).leases None (lawful.known worker grant leased).0 in
      let own = ap quota_of leased in
      omega (arith, lawful.sum, sums, own, k.history.range.budget.1)

  -- ---- a lease

  module _ (worker block quota : ℕ) (quota_is : quota ≡ min t.settings.lot t.left) (after : List Event) (busier : List ℕ) (there : worker < length t.seats) (space : ℕ) where
    abbrev Leased : Seat
    Leased = record { grant = Some (record { block = block; quota = quota }); room = space; signed_off = false }

    abbrev leased_table : Table
    leased_table = record t { seats = slice_set t.seats worker Leased; left = t.left - quota; journal = after }

    leased_counts : (counts_of t).signed_off worker ≡ false → counts_of leased_table ≡ counts_after (blocks t) t.settings (counts_of t) (Lease worker block quota)
    leased_counts stays = counts_same (counts_of leased_table) (counts_after (blocks t) t.settings (counts_of t) (Lease worker block quota))
        (seat_set t.seats worker Leased there (λ (s : Seat). s.grant)) (λ other. refl)
        (seat_kept t.seats worker Leased there (λ (s : Seat). s.signed_off) (sym stays)) refl refl refl refl

    pub lease_adds : (counts_of t).signed_off worker ≡ false → after ≡ t.journal ++ Lease worker block quota ∷ [] → Adds t leased_table (Lease worker block (min t.settings.lot t.left) ∷ [])
    lease_adds stays is = subst (λ q. Adds t leased_table (Lease worker block q ∷ [])) quota_is (record { counts = leased_counts stays; journal = is; abstraction = refl; settings = refl; past = refl })

    pub lease_room : rooms leased_table ≡ with_entry (rooms t) worker space
    lease_room = λ i k'. seat_set t.seats worker Leased there (λ (s : Seat). s.room) k' i

    -- no worker has more room than after a lease with a whole one
    less_room : space ≤ 63 → (w : ℕ) → rooms leased_table w ≤ with_entry (rooms t) worker 63 w
    less_room few w = by_cases (w == worker)
        (λ e. let one = ap (λ (r : ℕ → ℕ). r w) lease_room in let two = entry_here (rooms t) worker w space e in let three = entry_here (rooms t) worker w 63 e in omega (arith, one, two, three, few))
        (λ e. let one = ap (λ (r : ℕ → ℕ). r w) lease_room in let two = entry_else (rooms t) worker w space e in let three = entry_else (rooms t) worker w 63 e in omega (arith, one, two, three))

    pub lease_kept : (room : ℕ) → space ≤ 63 → worker < t.settings.workers → (counts_of t).leases worker ≡ None → (counts_of t).signed_off worker ≡ false → block < (blocks t).count
        → can_be_leased (blocks t) t.settings (counts_of t) block ≡ true → after ≡ t.journal ++ Lease worker block quota ∷ [] → length busier ≡ length busy
        → ((c : ℕ) → get_or busier c 0 ≡ get_or busy c 0 + one_if (interferes (blocks t) block c)) → promised + (space + 1) ≤ room
        → IsKept leased_table busier near (promised + (space + 1)) room
    lease_kept room small inside vacant stays known test is same each enough =
        let allowed = lease_may (blocks t) t.settings (counts_of t) worker block known inside stays vacant refl k.history.range.lot.0 test in
        let may = subst (λ q. refusal (blocks t) t.settings (counts_of t) (Lease worker block q) ≡ None) (sym quota_is) allowed in
        let counts = leased_counts stays in
        let sums = due_set t.seats worker Leased there in
        let empty = ap (λ (o : Option Grant). if is_some o then (seat_of t.seats worker).room + 1 else 0) vacant in
        let stayed = ap (λ r. one_if (not r)) stays in
        let left : LeavesRoom after (rooms leased_table) = fewer_room after (with_entry (rooms t) worker 63) (rooms leased_table)
        (event_room t.journal after (Lease worker block quota) (rooms t) (with_entry (rooms t) worker 63) (k.within, k.left) tt refl is) (less_room small) in
        record {
          seats = length-set t.seats worker Leased ∙ k.seats;
          rooms = seat_bound t.seats worker Leased there (λ (s : Seat). s.room) 63 small k.rooms;
          own = k.own;
          busy_is = record {
            places = same ∙ k.busy_is.places;
            counted = λ c lt.
                let change = events_change_busy (blocks t) t.settings (counts_of t) (Lease worker block quota) c may in
                let swap = ap one_if (interference_is_mutual (blocks t) block c) in
                let now = ap (λ (n : Counts). busy_count (blocks t) t.settings.workers n.leases c) counts in
                omega (arith, each c, k.busy_is.counted c lt, change, swap, now);
          };
          marks = k.marks;
          history = history_with (blocks t) t.settings t.journal after (counts_of t) (counts_of leased_table) (Lease worker block quota) k.history may counts is;
          within = left.0;
          left = left.1;
          promised_is = omega (arith, k.promised_is, sums, empty, stayed);
          room = enough;
        }

  -- ---- a renewal

  module _ (worker used quota : ℕ) (own : Grant) (was : Seat) (is_was : was ≡ seat_of t.seats worker) (leased : was.grant ≡ Some own) (quota_is : quota ≡ min t.settings.lot (t.left + (own.quota - used)))
      (after : List Event) (there : worker < length t.seats) where
    abbrev Renewed : Seat
    Renewed = record { grant = Some (record own { quota = quota }); room = was.room - 1; signed_off = was.signed_off }

    abbrev renewed_table : Table
    renewed_table = record t { seats = slice_set t.seats worker Renewed; spent = t.spent + used; left = (t.left + (own.quota - used)) - quota; journal = after }

    pub has : (counts_of t).leases worker ≡ Some own
    has = sym (ap (λ (s : Seat). s.grant) is_was) ∙ leased

    abbrev the_quota : ℕ
    the_quota = min t.settings.lot (t.left + (quota_of ((counts_of t).leases worker) - used))

    quota_same : quota ≡ the_quota
    quota_same = quota_is ∙ sym (ap (λ (o : Option Grant). min t.settings.lot (t.left + (quota_of o - used))) has)

    renewed_counts : counts_of renewed_table ≡ counts_after (blocks t) t.settings (counts_of t) (Renew worker used quota)
    renewed_counts = counts_same (counts_of renewed_table) (counts_after (blocks t) t.settings (counts_of t) (Renew worker used quota))
        (λ k'. seat_set t.seats worker Renewed there (λ (s : Seat). s.grant) k' ∙ ap (λ (o : Option Grant). with_entry (counts_of t).leases worker o k') (sym (ap (with_quota quota) has)))
        (λ other. refl)
        (seat_kept t.seats worker Renewed there (λ (s : Seat). s.signed_off) (ap (λ (s : Seat). s.signed_off) is_was)) refl
        (ap (λ (o : Option Grant). (t.left + (quota_of o - used)) - quota) (sym has)) refl refl

    pub renewal_adds : after ≡ t.journal ++ Renew worker used quota ∷ [] → Adds t renewed_table (Renew worker used the_quota ∷ [])
    renewal_adds is = subst (λ q. Adds t renewed_table (Renew worker used q ∷ [])) quota_same (record { counts = renewed_counts; journal = is; abstraction = refl; settings = refl; past = refl })

    pub renewal_room : rooms renewed_table ≡ with_entry (rooms t) worker (rooms t worker - 1)
    renewal_room = λ i k'. (seat_set t.seats worker Renewed there (λ (s : Seat). s.room) k' ∙ ap (λ (s : Seat). with_entry (rooms t) worker (s.room - 1) k') is_was) i

    pub renewal_kept : (room : ℕ) → used ≤ own.quota → can_be_leased (blocks t) t.settings (counts_with_lease_home (counts_of t) worker used) own.block ≡ true → 0 < rooms t worker
        → after ≡ t.journal ++ Renew worker used quota ∷ [] → room + 1 ≡ spare → IsKept renewed_table busy near (promised - 1) room
    renewal_kept room few test some is one =
        let allowed = renewal_may (blocks t) t.settings (counts_of t) worker used own lawful has few refl k.history.range.lot.0 test in
        let may = subst (λ q. refusal (blocks t) t.settings (counts_of t) (Renew worker used q) ≡ None) (sym quota_same) allowed in
        let counts = renewed_counts in
        let sums = due_set t.seats worker Renewed there in
        let same_room = ap (λ (s : Seat). s.room) is_was in
        let out = ap (λ (o : Option Grant). if is_some o then (seat_of t.seats worker).room + 1 else 0) has in
        let stayed = ap (λ (s : Seat). one_if (not s.signed_off)) is_was in
        let left : LeavesRoom after (rooms renewed_table) = event_room t.journal after (Renew worker used quota) (rooms t) (rooms renewed_table) (k.within, k.left) some renewal_room is in
        record {
          seats = length-set t.seats worker Renewed ∙ k.seats;
          rooms = seat_bound t.seats worker Renewed there (λ (s : Seat). s.room) 63 (omega (arith, same_room, k.rooms worker)) k.rooms;
          own = k.own;
          busy_is = busy_same (blocks t) t.settings.workers (counts_of t) (counts_of renewed_table) busy
              (λ c. ap (λ (n : Counts). busy_count (blocks t) t.settings.workers n.leases c) counts ∙ events_change_busy (blocks t) t.settings (counts_of t) (Renew worker used quota) c may) k.busy_is;
          marks = k.marks;
          history = history_with (blocks t) t.settings t.journal after (counts_of t) (counts_of renewed_table) (Renew worker used quota) k.history may counts is;
          within = left.0;
          left = left.1;
          promised_is = omega (arith, k.promised_is, sums, same_room, out, stayed, some);
          room = omega (arith, k.room, one);
        }
