-- Which blocks can be leased, by the counters.
use Rattle.std.proofs.Common.{◌≡◌, ℕ, zero, suc, ◌+◌, ◌-◌, ◌<◌, Bool, true, false, cond, not, ◌&&◌, ◌||◌, ◌==◌, nat_lt, is_none, List, length, get_or, Option, Some, None, refl, sym, ap, ◌∙◌}
use Rattle.std.proofs.Math.Bool.{or-false}
use Rattle.pb_model.proofs.Callers.{by_cases, equal, equal_swap}
use Rattle.pb_machine.specs.declared.event.Grant.{Grant}
use Rattle.pb_machine.specs.Tables.{with_entry, any_below}
use Rattle.pb_machine.specs.Blocks.{Blocks, meets, interferes}
use Rattle.pb_machine.specs.Counts.{Counts, is_lease_of, is_busy, is_taken, is_near_hot, quota_of}
use Rattle.pb_machine.specs.Counters.{busy_count}
use Rattle.pb_machine.specs.Choice.{counts_with_lease_home}
use Rattle.pb_machine.proofs.Callers.{any_same, any_at, any_false, entry_here, entry_else, busy_is_counted, hot_is_counted}
use Rattle.pb_lease.specs.declared.seat.Seat.{Seat}
use Rattle.pb_lease.specs.Tables.{Table, blocks, counts_of, seat_of}
use Rattle.pb_lease.specs.Leasing.{can_be_leased, is_clear}
use Rattle.pb_lease.specs.Kept.{IsKept}
use Rattle.pb_lease.proofs.LeaseKept.{lawful}
use Rattle.pb_lease.proofs.ReleaseKept.{no_count}

any_or : (n : ℕ) (p q : ℕ → Bool) → any_below n (λ k. p k || q k) ≡ (any_below n p || any_below n q)
any_or zero p q = refl
any_or (suc n) p q = ap (λ r. (p n || q n) || r) (any_or n p q) ∙ mixed (p n) (q n) (any_below n p) (any_below n q)
  where
    mixed : (a b c d : Bool) → ((a || b) || (c || d)) ≡ ((a || c) || (b || d))
    mixed true b c d = refl
    mixed false true true d = refl
    mixed false true false d = refl
    mixed false false c d = refl

-- some lease is of this very block
abbrev pub is_out : (workers : ℕ) → (ℕ → Option Grant) → (block : ℕ) → Bool
is_out workers leases block = any_below workers (λ worker. is_lease_of (λ b. b == block) (leases worker))

module _ (of : Blocks) (block : ℕ) (own : meets of block block ≡ true) where
  met_is : (o : Option Grant) → is_lease_of (meets of block) o ≡ (is_lease_of (interferes of block) o || is_lease_of (λ b. b == block) o)
  met_is None = refl
  met_is (Some grant) = by_cases (block == grant.block)
      (λ e. ap (meets of block) (sym (equal block grant.block e)) ∙ own ∙ sym (ap (λ r. (not r && meets of block grant.block) || (grant.block == block)) e ∙ equal_swap grant.block block ∙ e))
      (λ e. sym (ap (λ r. (not r && meets of block grant.block) || (grant.block == block)) e ∙ ap (λ r. meets of block grant.block || r) (equal_swap grant.block block ∙ e) ∙ or-false (meets of block grant.block)))

  pub taken_is : (workers : ℕ) (leases : ℕ → Option Grant) → is_taken of workers leases block ≡ (is_busy of workers leases block || is_out workers leases block)
  taken_is workers leases = any_same workers (λ w. is_lease_of (meets of block) (leases w)) (λ w. is_lease_of (interferes of block) (leases w) || is_lease_of (λ b. b == block) (leases w)) (λ w. met_is (leases w))
      ∙ any_or workers (λ w. is_lease_of (interferes of block) (leases w)) (λ w. is_lease_of (λ b. b == block) (leases w))

twice : (r : Bool) → r ≡ not (not r)
twice true = refl
twice false = refl

-- the test, in the order in which the parts are computed
abbrev pub by_parts : (no_end has_left no_hot no_lease is_out : Bool) → Bool
by_parts no_end has_left no_hot no_lease is_out = no_end && has_left && no_hot && not (not no_lease || is_out)

pub in_two : (e l h n d : Bool) → by_parts e l h n d ≡ cond ((e && l) && (h && n)) (not d) false
in_two false l h n d = refl
in_two true false h n d = refl
in_two true true false n d = refl
in_two true true true false d = refl
in_two true true true true d = refl

pub at_end : (e l h n d : Bool) → by_parts e l h n d ≡ cond (e && l && h) (n && not d) false
at_end false l h n d = refl
at_end true false h n d = refl
at_end true true false n d = refl
at_end true true true false d = refl
at_end true true true true d = refl

module _ (t : Table) (busy near : List ℕ) (promised spare : ℕ) (k : IsKept t busy near promised spare) (block : ℕ) (known : block < (blocks t).count) where
  own_meets : meets (blocks t) block block ≡ true
  own_meets = let s = k.own block known in any_at (blocks t).count block (λ c. (blocks t).scope block c && (blocks t).scope block c) known (ap (λ r. r && (blocks t).scope block block) s ∙ s)

  no_hot : not (is_near_hot (blocks t) (counts_of t).hot block) ≡ (get_or near block 0 == 0)
  no_hot = ap not (hot_is_counted (blocks t) (counts_of t).hot block ∙ ap (nat_lt 0) (sym (k.marks.counted block known))) ∙ sym (no_count (get_or near block 0))

  -- the test by parts, where so many leases are near and none is of this block but perhaps one
  pub parts_are : (counts : Counts) (n : ℕ) → counts.hot ≡ (counts_of t).hot → busy_count (blocks t) t.settings.workers counts.leases block ≡ n
      → can_be_leased (blocks t) t.settings counts block ≡ by_parts (is_none counts.end) (nat_lt 0 counts.left) (get_or near block 0 == 0) (n == 0) (is_out t.settings.workers counts.leases block)
  parts_are counts n same count =
      let busy_is : is_busy (blocks t) t.settings.workers counts.leases block ≡ not (n == 0) = busy_is_counted (blocks t) t.settings.workers counts.leases block ∙ ap (nat_lt 0) count ∙ twice (nat_lt 0 n) ∙ sym (ap not (no_count n)) in
      let hot_is : not (is_near_hot (blocks t) counts.hot block) ≡ (get_or near block 0 == 0) = ap (λ (hot : ℕ → Bool). not (is_near_hot (blocks t) hot block)) same ∙ no_hot in
      let taken : is_taken (blocks t) t.settings.workers counts.leases block ≡ (not (n == 0) || is_out t.settings.workers counts.leases block) =
      taken_is (blocks t) block own_meets t.settings.workers counts.leases ∙ ap (λ r. r || is_out t.settings.workers counts.leases block) busy_is in
      ap (λ r. is_none counts.end && nat_lt 0 counts.left && r && not (is_taken (blocks t) t.settings.workers counts.leases block)) hot_is
      ∙ ap (λ r. is_none counts.end && nat_lt 0 counts.left && (get_or near block 0 == 0) && not r) taken

  idle : (h n d : Bool) → (h && not (not n || d)) ≡ cond (h && n) (not d) false
  idle false n d = refl
  idle true false d = refl
  idle true true d = refl

  -- the test without the end and the budget
  pub clear_is : (n : ℕ) → busy_count (blocks t) t.settings.workers (counts_of t).leases block ≡ n
      → is_clear (blocks t) t.settings.workers (counts_of t) block ≡ cond ((get_or near block 0 == 0) && (n == 0)) (not (is_out t.settings.workers (counts_of t).leases block)) false
  clear_is n count =
      let busy_is : is_busy (blocks t) t.settings.workers (counts_of t).leases block ≡ not (n == 0) = busy_is_counted (blocks t) t.settings.workers (counts_of t).leases block ∙ ap (nat_lt 0) count ∙ twice (nat_lt 0 n) ∙ sym (ap not (no_count n)) in
      let taken : is_taken (blocks t) t.settings.workers (counts_of t).leases block ≡ (not (n == 0) || is_out t.settings.workers (counts_of t).leases block) =
      taken_is (blocks t) block own_meets t.settings.workers (counts_of t).leases ∙ ap (λ r. r || is_out t.settings.workers (counts_of t).leases block) busy_is in
      ap (λ r. r && not (is_taken (blocks t) t.settings.workers (counts_of t).leases block)) no_hot
      ∙ ap (λ r. (get_or near block 0 == 0) && not r) taken
      ∙ idle (get_or near block 0 == 0) (n == 0) (is_out t.settings.workers (counts_of t).leases block)

-- the walk over what the workers have
pub walked_out : (t : Table) (seats : List Seat) (block : ℕ) → seats ≡ t.seats → length t.seats ≡ t.settings.workers
    → any_below (length seats) (λ worker. is_lease_of (λ b. b == block) (seat_of seats worker).grant) ≡ is_out t.settings.workers (counts_of t).leases block
walked_out t seats block same places = ap (λ (s : List Seat). any_below (length s) (λ worker. is_lease_of (λ b. b == block) (seat_of s worker).grant)) same
    ∙ ap (λ n. any_below n (λ worker. is_lease_of (λ b. b == block) (seat_of t.seats worker).grant)) places

-- ---- with a lease home

module _ (workers worker : ℕ) (leases : ℕ → Option Grant) (own : Grant) (has : leases worker ≡ Some own) where
  -- another block is leased as before
  pub out_home : (block : ℕ) → (block == own.block) ≡ false → is_out workers (with_entry leases worker None) block ≡ is_out workers leases block
  out_home block other = any_same workers (λ w. is_lease_of (λ b. b == block) (with_entry leases worker None w)) (λ w. is_lease_of (λ b. b == block) (leases w)) (λ w. by_cases (w == worker)
      (λ e. ap (is_lease_of (λ b. b == block)) (entry_here leases worker w None e) ∙ sym (ap (λ n. is_lease_of (λ b. b == block) (leases n)) (equal w worker e) ∙ ap (is_lease_of (λ b. b == block)) has ∙ equal_swap own.block block ∙ other))
      (λ e. ap (is_lease_of (λ b. b == block)) (entry_else leases worker w None e)))

  -- its own block's scope meets none, where the scopes of leases are apart
  pub none_taken : (of : Blocks) → ((w : ℕ) (grant : Grant) → leases w ≡ Some grant → (worker == w) ≡ false → meets of own.block grant.block ≡ false) → is_taken of workers (with_entry leases worker None) own.block ≡ false
  none_taken of apart = any_false workers (λ w. is_lease_of (meets of own.block) (with_entry leases worker None w)) (λ w. by_cases (w == worker)
      (λ e. ap (is_lease_of (meets of own.block)) (entry_here leases worker w None e))
      (λ e. ap (is_lease_of (meets of own.block)) (entry_else leases worker w None e) ∙ go w (leases w) refl (equal_swap worker w ∙ e)))
    where
      go : (w : ℕ) (o : Option Grant) → leases w ≡ o → (worker == w) ≡ false → is_lease_of (meets of own.block) (leases w) ≡ false
      go w None is other = ap (is_lease_of (meets of own.block)) is
      go w (Some grant) is other = ap (is_lease_of (meets of own.block)) is ∙ apart w grant is other

module _ (t : Table) (busy near : List ℕ) (promised spare : ℕ) (k : IsKept t busy near promised spare) (worker used : ℕ) (own : Grant) (has : (counts_of t).leases worker ≡ Some own) where
  abbrev home : Counts
  home = counts_with_lease_home (counts_of t) worker used

  left_is : home.left ≡ t.left + (own.quota - used)
  left_is = ap (λ (o : Option Grant). t.left + (quota_of o - used)) has

  -- whether no end stands, something is left, and no hot block is near
  abbrev pub open_home : (block : ℕ) → Bool
  open_home block = is_none t.end && nat_lt 0 (t.left + (own.quota - used)) && (get_or near block 0 == 0)

  pub opened_after : (block : ℕ) → block < (blocks t).count → can_be_leased (blocks t) t.settings home block ≡ (open_home block && not (is_taken (blocks t) t.settings.workers home.leases block))
  opened_after block known =
      ap (λ n. is_none t.end && nat_lt 0 n && not (is_near_hot (blocks t) (counts_of t).hot block) && not (is_taken (blocks t) t.settings.workers home.leases block)) left_is
      ∙ ap (λ r. is_none t.end && nat_lt 0 (t.left + (own.quota - used)) && r && not (is_taken (blocks t) t.settings.workers home.leases block)) (no_hot t busy near promised spare k block known)

  pub closed_after : (block : ℕ) → block < (blocks t).count → open_home block ≡ false → can_be_leased (blocks t) t.settings home block ≡ false
  closed_after block known closed = opened_after block known ∙ ap (λ r. r && not (is_taken (blocks t) t.settings.workers home.leases block)) closed

  pub own_after : own.block < (blocks t).count → open_home own.block ≡ true → can_be_leased (blocks t) t.settings home own.block ≡ true
  own_after known opened =
      let free = none_taken t.settings.workers worker (counts_of t).leases own has (blocks t) (λ w grant is other. (lawful t busy near promised spare k).apart worker w own grant has is other) in
      opened_after own.block known ∙ ap (λ r. r && not (is_taken (blocks t) t.settings.workers home.leases own.block)) opened ∙ ap not free

  pub other_after : (block n : ℕ) → block < (blocks t).count → (block == own.block) ≡ false → busy_count (blocks t) t.settings.workers home.leases block ≡ n
      → can_be_leased (blocks t) t.settings home block ≡ cond (open_home block) ((n == 0) && not (is_out t.settings.workers (counts_of t).leases block)) false
  other_after block n known other count =
      parts_are t busy near promised spare k block known home n refl count
      ∙ ap (λ m. by_parts (is_none t.end) (nat_lt 0 m) (get_or near block 0 == 0) (n == 0) (is_out t.settings.workers home.leases block)) left_is
      ∙ ap (λ r. by_parts (is_none t.end) (nat_lt 0 (t.left + (own.quota - used))) (get_or near block 0 == 0) (n == 0) r) (out_home t.settings.workers worker (counts_of t).leases own has block other)
      ∙ at_end (is_none t.end) (nat_lt 0 (t.left + (own.quota - used))) (get_or near block 0 == 0) (n == 0) (is_out t.settings.workers (counts_of t).leases block)
