-- A journal that keeps within room is short: what is still owed pays for each event.
use Rattle.std.proofs.Common.{◌≡◌, ℕ, zero, suc, ◌+◌, ◌-◌, ◌*◌, ◌<◌, ◌≤◌, length, Bool, true, false, cond, not, ◌==◌, is_none, List, [], ◌∷◌, ◌++◌, filter, Option, Some, None, refl, sym, ap, ◌∙◌, arith}
use Rattle.pb_model.proofs.Callers.{by_cases, or_false, equal, equal_self, equal_swap}
use Rattle.pb_machine.specs.declared.event.Event.{Event}
use Rattle.pb_machine.specs.declared.event.Event.TheVariants.{Lease, Renew, Hot, Cold, Release, Off, Ended}
use Rattle.pb_machine.specs.declared.event.Grant.{Grant}
use Rattle.pb_machine.specs.declared.settings.Settings.{Settings}
use Rattle.pb_machine.specs.Tables.{with_entry, one_if, sum_below}
use Rattle.pb_machine.specs.Blocks.{Blocks}
use Rattle.pb_machine.specs.Counts.{Counts, opening_counts, with_quota, counts_after}
use Rattle.pb_machine.specs.Legality.{is_stranger, refusal}
use Rattle.pb_machine.specs.History.{replay, is_event_of, events_of}
use Rattle.pb_machine.specs.Room.{room_with, room_from, no_room, HasRoom, AreWithinRoom, one_if_lease, leases_in, takes_room}
use Rattle.pb_machine.specs.JournalLaws.{JournalsAreShort, LeasesTakeTheirRoom, RoomGoesOn}
use Rattle.pb_machine.proofs.TableLaws.{entry_here, entry_else, sum_same, sum_with_entry}
use Rattle.pb_machine.proofs.CountsLaws.{none_leased, grant_of, passes, within}
use Rattle.pb_machine.proofs.Histories.{replay_first, first_may}
use Rattle.pb_machine.proofs.EndsTold.{no_end_before}

-- ---- what is owed

-- the events that a worker may still add: those that its lease has room for with its return, and its sign-off
abbrev owed : Option Grant → (room : ℕ) → (off : Bool) → ℕ
owed None room off = one_if (not off)
owed (Some grant) room off = room + 1 + one_if (not off)

-- a sum of which one value changed
sum_change : (n i : ℕ) (f g : ℕ → ℕ) → i < n → ((k : ℕ) → (k == i) ≡ false → g k ≡ f k) → sum_below n g + f i ≡ sum_below n f + g i
sum_change n i f g lt rest =
    let same = sum_same n g (with_entry f i (g i)) (λ k. by_cases (k == i)
    (λ here. ap g (equal k i here) ∙ sym (entry_here f i k (g i) here))
    (λ else. rest k else ∙ sym (entry_else f i k (g i) else))) in
    let sums = sum_with_entry (λ k. k) n i f (g i) lt in
    omega (arith, same, sums)

module _ (blocks : Blocks) (settings : Settings) where
  abbrev owed_by : Counts → (ℕ → ℕ) → ℕ → ℕ
  owed_by c room k = owed (c.leases k) (room k) (c.signed_off k)

  abbrev owed_in : Counts → (ℕ → ℕ) → ℕ
  owed_in c room = sum_below settings.workers (owed_by c room) + one_if (is_none c.end)

  active : (c : Counts) (i : ℕ) → is_stranger settings c i ≡ false → c.signed_off i ≡ false
  active c i h = (or_false _ (c.signed_off i) h).1

  marks : (c : Counts) (room : ℕ → ℕ) (i : ℕ) → ((grant : Grant) × (c.leases i ≡ Some grant)) → i < settings.workers → 0 < room i
      → 1 + owed_in c (with_entry room i (room i - 1)) ≤ 65 * 0 + owed_in c room
  marks c room i lease inside has =
      let less = room i - 1 in
      let sums = sum_change settings.workers i (owed_by c room) (owed_by c (with_entry room i less)) inside
      (λ k else. ap (λ r. owed (c.leases k) r (c.signed_off k)) (entry_else room i k less else)) in
      let here : owed_by c (with_entry room i less) i ≡ less + 1 + one_if (not (c.signed_off i)) =
      ap (λ o. owed o (with_entry room i less i) (c.signed_off i)) lease.1 ∙ ap (λ r. r + 1 + one_if (not (c.signed_off i))) (entry_here room i i less (equal_self i)) in
      let was : owed_by c room i ≡ room i + 1 + one_if (not (c.signed_off i)) = ap (λ o. owed o (room i) (c.signed_off i)) lease.1 in
      omega (arith, sums, here, was, has)

  -- an event takes of what is owed, but for a lease, which brings what its 65 events take
  pays : (c : Counts) (room : ℕ → ℕ) (e : Event) → refusal blocks settings c e ≡ None → HasRoom room e
      → 1 + owed_in (counts_after blocks settings c e) (room_with room e) ≤ 65 * one_if_lease e + owed_in c room
  pays c room (Lease i block quota) may has =
      let t = passes blocks settings c (Lease i block quota) may in
      let new : Grant = record { block = block; quota = quota } in
      let none : c.leases i ≡ None = none_leased (c.leases i) t.1.1.0 in
      let sums = sum_change settings.workers i (owed_by c room) (owed_by (counts_after blocks settings c (Lease i block quota)) (with_entry room i 63)) (within blocks settings c i t.1.0)
      (λ k else. ap (λ o. owed o (with_entry room i 63 k) (c.signed_off k)) (entry_else c.leases i k (Some new) else) ∙ ap (λ r. owed (c.leases k) r (c.signed_off k)) (entry_else room i k 63 else)) in
      let here : owed_by (counts_after blocks settings c (Lease i block quota)) (with_entry room i 63) i ≡ 63 + 1 + one_if (not (c.signed_off i)) =
      ap (λ o. owed o (with_entry room i 63 i) (c.signed_off i)) (entry_here c.leases i i (Some new) (equal_self i)) ∙ ap (λ r. r + 1 + one_if (not (c.signed_off i))) (entry_here room i i 63 (equal_self i)) in
      let was : owed_by c room i ≡ one_if (not (c.signed_off i)) = ap (λ o. owed o (room i) (c.signed_off i)) none in
      omega (arith, sums, here, was)
  pays c room (Renew i used quota) may has =
      let t = passes blocks settings c (Renew i used quota) may in
      let lease = grant_of (c.leases i) t.1.1.0 in
      let after = counts_after blocks settings c (Renew i used quota) in
      let less = room i - 1 in
      let sums = sum_change settings.workers i (owed_by c room) (owed_by after (with_entry room i less)) (within blocks settings c i t.1.0)
      (λ k else. ap (λ o. owed o (with_entry room i less k) (c.signed_off k)) (entry_else c.leases i k (with_quota quota (c.leases i)) else) ∙ ap (λ r. owed (c.leases k) r (c.signed_off k)) (entry_else room i k less else)) in
      let here : owed_by after (with_entry room i less) i ≡ less + 1 + one_if (not (c.signed_off i)) =
      ap (λ o. owed o (with_entry room i less i) (c.signed_off i)) (entry_here c.leases i i (with_quota quota (c.leases i)) (equal_self i) ∙ ap (with_quota quota) lease.1)
      ∙ ap (λ r. r + 1 + one_if (not (c.signed_off i))) (entry_here room i i less (equal_self i)) in
      let was : owed_by c room i ≡ room i + 1 + one_if (not (c.signed_off i)) = ap (λ o. owed o (room i) (c.signed_off i)) lease.1 in
      omega (arith, sums, here, was, has)
  pays c room (Hot i block) may has =
      let t = passes blocks settings c (Hot i block) may in marks c room i (grant_of (c.leases i) t.1.1.0) (within blocks settings c i t.1.0) has
  pays c room (Cold i block) may has =
      let t = passes blocks settings c (Cold i block) may in marks c room i (grant_of (c.leases i) t.1.1.0) (within blocks settings c i t.1.0) has
  pays c room (Release i used memory) may has =
      let t = passes blocks settings c (Release i used memory) may in
      let lease = grant_of (c.leases i) t.1.0 in
      let after = counts_after blocks settings c (Release i used memory) in
      let sums = sum_change settings.workers i (owed_by c room) (owed_by after (with_entry room i 0)) (within blocks settings c i t.0)
      (λ k else. ap (λ o. owed o (with_entry room i 0 k) (c.signed_off k)) (entry_else c.leases i k None else) ∙ ap (λ r. owed (c.leases k) r (c.signed_off k)) (entry_else room i k 0 else)) in
      let here : owed_by after (with_entry room i 0) i ≡ one_if (not (c.signed_off i)) =
      ap (λ o. owed o (with_entry room i 0 i) (c.signed_off i)) (entry_here c.leases i i None (equal_self i)) in
      let was : owed_by c room i ≡ room i + 1 + one_if (not (c.signed_off i)) = ap (λ o. owed o (room i) (c.signed_off i)) lease.1 in
      omega (arith, sums, here, was)
  pays c room (Off i memory) may has =
      let t = passes blocks settings c (Off i memory) may in
      let none : c.leases i ≡ None = none_leased (c.leases i) t.1.0 in
      let after = counts_after blocks settings c (Off i memory) in
      let sums = sum_change settings.workers i (owed_by c room) (owed_by after room) (within blocks settings c i t.0)
      (λ k else. ap (owed (c.leases k) (room k)) (entry_else c.signed_off i k true else)) in
      let here : owed_by after room i ≡ 0 =
      ap (owed (c.leases i) (room i)) (entry_here c.signed_off i i true (equal_self i)) ∙ ap (λ o. owed o (room i) true) none in
      let was : owed_by c room i ≡ 1 = ap (λ o. owed o (room i) (c.signed_off i)) none ∙ ap (λ off. one_if (not off)) (active c i t.0) in
      omega (arith, sums, here, was)
  pays c room (Ended end) may has =
      let before : one_if (is_none c.end) ≡ 1 = ap (λ o. one_if (is_none o)) (no_end_before blocks settings c end may) in
      omega (arith, before)

  all_pay : (es : List Event) (c d : Counts) (room : ℕ → ℕ) → replay blocks settings c es ≡ Some d → AreWithinRoom room es
      → length es ≤ 65 * leases_in es + owed_in c room
  all_pay [] c d room is keeps = omega arith
  all_pay (e ∷ es) c d room is keeps =
      let may = first_may blocks settings c d e es is in
      let first = pays c room e may keeps.0 in
      let rest = all_pay es (counts_after blocks settings c e) d (room_with room e) (sym (replay_first blocks settings c e es may) ∙ is) keeps.1 in
      omega (arith, first, rest)

  opening_owes : (before : ℕ) → owed_in (opening_counts settings before) no_room ≡ settings.workers + 1
  opening_owes before = let ones = all_one settings.workers in omega (arith, ones)
    where
      all_one : (n : ℕ) → sum_below n (owed_by (opening_counts settings before) no_room) ≡ n
      all_one zero = refl
      all_one (suc n) = let rest = all_one n in omega (arith, rest)

pub journals_are_short : JournalsAreShort
journals_are_short blocks settings before journal counts is keeps =
    let pays = all_pay blocks settings journal (opening_counts settings before) counts no_room is.replays keeps in
    let owes = opening_owes blocks settings before in
    omega (arith, pays, owes)

-- ---- room goes on

room_on : (es more : List Event) (room : ℕ → ℕ) → room_from room (es ++ more) ≡ room_from (room_from room es) more
room_on [] more room = refl
room_on (e ∷ es) more room = room_on es more (room_with room e)

within_both : (es more : List Event) (room : ℕ → ℕ) → AreWithinRoom room es → AreWithinRoom (room_from room es) more → AreWithinRoom room (es ++ more)
within_both [] more room first later = later
within_both (e ∷ es) more room first later = (first.0, within_both es more (room_with room e) first.1 later)

within_parts : (es more : List Event) (room : ℕ → ℕ) → AreWithinRoom room (es ++ more) → AreWithinRoom room es × AreWithinRoom (room_from room es) more
within_parts [] more room all = (tt, all)
within_parts (e ∷ es) more room all = let rest = within_parts es more (room_with room e) all.1 in ((all.0, rest.0), rest.1)

leases_on : (es more : List Event) → leases_in (es ++ more) ≡ leases_in es + leases_in more
leases_on [] more = omega arith
leases_on (e ∷ es) more = let rest = leases_on es more in omega (arith, rest)

pub room_goes_on : RoomGoesOn
room_goes_on journal more = (
  (λ all. within_parts journal more no_room all, λ both. within_both journal more no_room both.0 both.1),
  room_on journal more no_room,
  leases_on journal more,
)

-- ---- no lease takes more than its room

-- how many of these events take of the worker's room, and how many are its leases
abbrev takings : (worker : ℕ) → List Event → ℕ
takings worker es = length (filter (takes_room worker) es)

abbrev own_leases : (worker : ℕ) → List Event → ℕ
own_leases worker es = leases_in (events_of worker es)

-- a mark or a renewal by a worker
takes_one : (worker by : ℕ) (e : Event) (es : List Event) (room : ℕ → ℕ) → is_event_of worker e ≡ (by == worker) → takes_room worker e ≡ (by == worker) → one_if_lease e ≡ 0 → 0 < room by
    → (own_leases worker es ≡ 0 → takings worker es ≤ with_entry room by (room by - 1) worker) → own_leases worker (e ∷ es) ≡ 0 → takings worker (e ∷ es) ≤ room worker
takes_one worker by e es room event take lease has rest none = by_cases (by == worker)
    (λ own.
    let more : takings worker (e ∷ es) ≡ suc (takings worker es) = ap (λ r. length (cond r (e ∷ filter (takes_room worker) es) (filter (takes_room worker) es))) (take ∙ own) in
    let same : own_leases worker (e ∷ es) ≡ one_if_lease e + own_leases worker es = ap (λ r. leases_in (cond r (e ∷ events_of worker es) (events_of worker es))) (event ∙ own) in
    let left : with_entry room by (room by - 1) worker ≡ room by - 1 = entry_here room by worker (room by - 1) (equal_swap worker by ∙ own) in
    let mine : room by ≡ room worker = ap room (equal by worker own) in
    let later = rest (omega (arith, same, none, lease)) in
    omega (arith, more, left, mine, later, has))
    (λ other.
    let more : takings worker (e ∷ es) ≡ takings worker es = ap (λ r. length (cond r (e ∷ filter (takes_room worker) es) (filter (takes_room worker) es))) (take ∙ other) in
    let same : own_leases worker (e ∷ es) ≡ own_leases worker es = ap (λ r. leases_in (cond r (e ∷ events_of worker es) (events_of worker es))) (event ∙ other) in
    let left : with_entry room by (room by - 1) worker ≡ room worker = entry_else room by worker (room by - 1) (equal_swap worker by ∙ other) in
    let later = rest (sym same ∙ none) in
    omega (arith, more, left, later))

all_take : (es : List Event) (worker : ℕ) (room : ℕ → ℕ) → AreWithinRoom room es → own_leases worker es ≡ 0 → takings worker es ≤ room worker
all_take [] worker room keeps none = omega arith
all_take (Lease by block quota ∷ es) worker room keeps none = by_cases (by == worker)
    (λ own.
    let same : own_leases worker (Lease by block quota ∷ es) ≡ 1 + own_leases worker es = ap (λ r. leases_in (cond r (Lease by block quota ∷ events_of worker es) (events_of worker es))) own in
    absurd (omega (arith, same, none)))
    (λ other.
    let same : own_leases worker (Lease by block quota ∷ es) ≡ own_leases worker es = ap (λ r. leases_in (cond r (Lease by block quota ∷ events_of worker es) (events_of worker es))) other in
    let left : with_entry room by 63 worker ≡ room worker = entry_else room by worker 63 (equal_swap worker by ∙ other) in
    let later = all_take es worker (with_entry room by 63) keeps.1 (sym same ∙ none) in
    omega (arith, left, later))
all_take (Renew by used quota ∷ es) worker room keeps none =
    takes_one worker by (Renew by used quota) es room refl refl refl keeps.0 (λ rest. all_take es worker (with_entry room by (room by - 1)) keeps.1 rest) none
all_take (Hot by block ∷ es) worker room keeps none =
    takes_one worker by (Hot by block) es room refl refl refl keeps.0 (λ rest. all_take es worker (with_entry room by (room by - 1)) keeps.1 rest) none
all_take (Cold by block ∷ es) worker room keeps none =
    takes_one worker by (Cold by block) es room refl refl refl keeps.0 (λ rest. all_take es worker (with_entry room by (room by - 1)) keeps.1 rest) none
all_take (Release by used memory ∷ es) worker room keeps none = by_cases (by == worker)
    (λ own.
    let same : own_leases worker (Release by used memory ∷ es) ≡ 0 + own_leases worker es = ap (λ r. leases_in (cond r (Release by used memory ∷ events_of worker es) (events_of worker es))) own in
    let left : with_entry room by 0 worker ≡ 0 = entry_here room by worker 0 (equal_swap worker by ∙ own) in
    let later = all_take es worker (with_entry room by 0) keeps.1 (omega (arith, same, none)) in
    omega (arith, left, later))
    (λ other.
    let same : own_leases worker (Release by used memory ∷ es) ≡ own_leases worker es = ap (λ r. leases_in (cond r (Release by used memory ∷ events_of worker es) (events_of worker es))) other in
    let left : with_entry room by 0 worker ≡ room worker = entry_else room by worker 0 (equal_swap worker by ∙ other) in
    let later = all_take es worker (with_entry room by 0) keeps.1 (sym same ∙ none) in
    omega (arith, left, later))
all_take (Off by memory ∷ es) worker room keeps none = by_cases (by == worker)
    (λ own.
    let same : own_leases worker (Off by memory ∷ es) ≡ 0 + own_leases worker es = ap (λ r. leases_in (cond r (Off by memory ∷ events_of worker es) (events_of worker es))) own in
    all_take es worker room keeps.1 (omega (arith, same, none)))
    (λ other.
    let same : own_leases worker (Off by memory ∷ es) ≡ own_leases worker es = ap (λ r. leases_in (cond r (Off by memory ∷ events_of worker es) (events_of worker es))) other in
    all_take es worker room keeps.1 (sym same ∙ none))
all_take (Ended end ∷ es) worker room keeps none = all_take es worker room keeps.1 none

pub leases_take_their_room : LeasesTakeTheirRoom
leases_take_their_room start more worker block quota keeps none =
    let parts = within_parts start (Lease worker block quota ∷ more) no_room keeps in
    let room = room_from no_room start in
    let taken = all_take more worker (with_entry room worker 63) parts.1.1 none in
    let left = entry_here room worker worker 63 (equal_self worker) in
    omega (arith, taken, left)
