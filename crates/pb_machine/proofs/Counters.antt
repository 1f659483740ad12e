-- The numbers of leased and of hot blocks in an interference.
use Rattle.std.proofs.Common.{◌≡◌, ℕ, zero, suc, ◌+◌, ◌<◌, Bool, true, false, not, ◌&&◌, ◌||◌, ◌==◌, nat_lt, Option, Some, None, refl, sym, ap, ◌∙◌, arith, is_some}
use Rattle.std.specs.List.{AllByRecursion}
use Rattle.std.proofs.Math.Bool.{and-true, and-false}
use Rattle.std.proofs.lemmas.Bool.Decides.{nat_tests}
use Rattle.pb_model.proofs.Callers.{not_false, or_false, equal, below, by_cases}
use Rattle.pb_machine.specs.declared.event.Event.{Event}
use Rattle.pb_machine.specs.declared.event.Event.TheVariants.{Lease, Renew, Hot, Cold, Release, Off, Ended}
use Rattle.pb_machine.specs.declared.event.EventRefusal.TheVariants.{Trouble}
use Rattle.pb_machine.specs.declared.event.Grant.{Grant}
use Rattle.pb_machine.specs.declared.settings.Settings.{Settings}
use Rattle.pb_machine.specs.Tables.{with_entry, any_below, sum_below, one_if, count_below}
use Rattle.pb_machine.specs.Blocks.{Blocks, interferes}
use Rattle.pb_machine.specs.Counts.{Counts, is_lease_of, is_busy, counts_after}
use Rattle.pb_machine.specs.Legality.{tests, is_memory_end, refusal}
use Rattle.pb_machine.specs.Counters.{busy_count, hot_count, hot_count_of, ChangesBusy, ChangesHot}
use Rattle.pb_machine.specs.JournalLaws.{BusyIsCounted, HotIsCounted, CountersFit, EventsChangeBusy, EventsChangeHot, MarksChangeHot, InterferenceIsMutual, CountersBeginAtNone}
use Rattle.pb_machine.proofs.TableLaws.{entry_here, entry_else, sum_same, one_small, sum_small, sum_with_entry, any_none, sum_zero}
use Rattle.pb_machine.proofs.CountsLaws.{none_true, rest_passes, none_leased, grant_of, renewed_same, interferes_swap}

-- some number passes exactly where the count is not 0
any_counted : (n : ℕ) (test : ℕ → Bool) → any_below n test ≡ nat_lt 0 (count_below n test)
any_counted zero test = refl
any_counted (suc n) test = by_cases (test n)
    (λ e. let one = ap one_if e in ap (λ r. r || any_below n test) e ∙ sym (grind (arith, nat_tests)))
    (λ e. let none = ap one_if e in ap (λ r. r || any_below n test) e ∙ any_counted n test ∙ ap (nat_lt 0) (omega arith))

-- sums that balance at each number
sum_balance : (n : ℕ) (f g h : ℕ → ℕ) → ((i : ℕ) → f i + g i ≡ h i) → sum_below n f + sum_below n g ≡ sum_below n h
sum_balance zero f g h each = refl
sum_balance (suc n) f g h each = let rest = sum_balance n f g h each in let here = each n in omega arith

-- what passes is what passes another test too, and what doesn't
split : (a h t : Bool) → one_if (a && (h && not t)) + one_if (a && (h && t)) ≡ one_if (a && h)
split false h t = refl
split true false t = refl
split true true false = refl
split true true true = refl

split_not : (a h t : Bool) → one_if (a && (h && t)) + one_if (a && (h && not t)) ≡ one_if (a && h)
split_not a h t = let turned = split a h t in omega (arith, turned)

module _ (blocks : Blocks) where
  -- a table of hot blocks with another mark
  with_mark : (hot : ℕ → Bool) (marked block : ℕ) (mark : Bool) → marked < blocks.count
      → hot_count blocks (with_entry hot marked mark) block + one_if (interferes blocks block marked && hot marked) ≡ hot_count blocks hot block + one_if (interferes blocks block marked && mark)
  with_mark hot marked block mark lt =
      let table : ℕ → Bool = λ k. interferes blocks block k && hot k in
      let sums = sum_with_entry one_if blocks.count marked table (interferes blocks block marked && mark) lt in
      let same : hot_count blocks (with_entry hot marked mark) block ≡ sum_below blocks.count (λ k. one_if (with_entry table marked (interferes blocks block marked && mark) k)) =
      sum_same blocks.count _ _ (λ k. ap one_if (entry k)) in
      omega (arith, same, sums)
    where
      entry : (k : ℕ) → (interferes blocks block k && with_entry hot marked mark k) ≡ with_entry (λ j. interferes blocks block j && hot j) marked (interferes blocks block marked && mark) k
      entry k = by_cases (k == marked)
          (λ e. ap (λ r. interferes blocks block k && r) (entry_here hot marked k mark e) ∙ ap (λ j. interferes blocks block j && mark) (equal k marked e)
          ∙ sym (entry_here (λ j. interferes blocks block j && hot j) marked k _ e))
          (λ e. ap (λ r. interferes blocks block k && r) (entry_else hot marked k mark e) ∙ sym (entry_else (λ j. interferes blocks block j && hot j) marked k _ e))

  marked_hot : (hot : ℕ → Bool) (marked block : ℕ) → marked < blocks.count → hot marked ≡ false → hot_count blocks (with_entry hot marked true) block ≡ hot_count blocks hot block + one_if (interferes blocks block marked)
  marked_hot hot marked block lt cold =
      let both = with_mark hot marked block true lt in
      let before : one_if (interferes blocks block marked && hot marked) ≡ 0 = ap one_if (ap (λ r. interferes blocks block marked && r) cold ∙ and-false (interferes blocks block marked)) in
      let after : one_if (interferes blocks block marked && true) ≡ one_if (interferes blocks block marked) = ap one_if (and-true (interferes blocks block marked)) in
      omega (arith, both, before, after)

  marked_cold : (hot : ℕ → Bool) (marked block : ℕ) → marked < blocks.count → hot marked ≡ true → hot_count blocks (with_entry hot marked false) block + one_if (interferes blocks block marked) ≡ hot_count blocks hot block
  marked_cold hot marked block lt is_hot =
      let both = with_mark hot marked block false lt in
      let before : one_if (interferes blocks block marked && hot marked) ≡ one_if (interferes blocks block marked) = ap one_if (ap (λ r. interferes blocks block marked && r) is_hot ∙ and-true (interferes blocks block marked)) in
      let after : one_if (interferes blocks block marked && false) ≡ 0 = ap one_if (and-false (interferes blocks block marked)) in
      omega (arith, both, before, after)

  hot_same : (hot other : ℕ → Bool) (block : ℕ) → ((k : ℕ) → hot k ≡ other k) → hot_count blocks hot block ≡ hot_count blocks other block
  hot_same hot other block same = sum_same blocks.count _ _ (λ k. ap (λ r. one_if (interferes blocks block k && r)) (same k))

  module _ (settings : Settings) (c : Counts) where
    passes : (e : Event) → refusal blocks settings c e ≡ None → AllByRecursion (λ t. t.0 ≡ false) (tests blocks settings c e)
    passes e may = none_true (tests blocks settings c e) (rest_passes (c.trouble && not (is_memory_end e), Trouble) (tests blocks settings c e) may)

    abbrev busy_of : (block : ℕ) → Option Grant → ℕ
    busy_of block o = one_if (is_lease_of (interferes blocks block) o)

    busy_after : (e : Event) (block : ℕ) → refusal blocks settings c e ≡ None
        → ChangesBusy blocks c e block (busy_count blocks settings.workers c.leases block) (busy_count blocks settings.workers (counts_after blocks settings c e).leases block)
    busy_after (Lease worker leased quota) block may =
        let t = passes (Lease worker leased quota) may in
        let lt : worker < settings.workers = below worker settings.workers (not_false _ (or_false _ _ t.1.0).0) in
        let none : busy_of block (c.leases worker) ≡ 0 = ap (busy_of block) (none_leased (c.leases worker) t.1.1.0) in
        let sums = sum_with_entry (busy_of block) settings.workers worker c.leases (Some (record { block = leased; quota = quota })) lt in
        omega (arith, sums, none)
    busy_after (Renew worker used quota) block may = sum_same settings.workers _ _ (λ k. ap one_if (renewed_same blocks settings (interferes blocks block) c.leases worker quota k))
    busy_after (Hot worker marked) block may = refl
    busy_after (Cold worker marked) block may = refl
    busy_after (Release worker used memory) block may =
        let t = passes (Release worker used memory) may in
        let lt : worker < settings.workers = below worker settings.workers (not_false _ (or_false _ _ t.0).0) in
        let w = grant_of (c.leases worker) t.1.0 in
        let one : busy_of block (c.leases worker) ≡ one_if (interferes blocks block w.0.block) = ap (busy_of block) w.1 in
        let sums = sum_with_entry (busy_of block) settings.workers worker c.leases None lt in
        (w.0, w.1, omega (arith, sums, one))
    busy_after (Off worker memory) block may = refl
    busy_after (Ended end) block may = refl

    hot_after : (e : Event) (block : ℕ) → refusal blocks settings c e ≡ None → ChangesHot blocks settings c e block (hot_count blocks c.hot block) (hot_count blocks (counts_after blocks settings c e).hot block)
    hot_after (Lease worker leased quota) block may = refl
    hot_after (Renew worker used quota) block may = refl
    hot_after (Hot worker marked) block may =
        let t = passes (Hot worker marked) may in
        let lt : marked < blocks.count = below marked blocks.count (not_false _ t.1.1.1.0) in
        let cold : c.hot marked ≡ false = (or_false (c.hot marked) _ (or_false settings.plain _ t.1.1.1.1.0).1).0 in
        let left : ℕ → Bool = λ k. c.hot k && not (interferes blocks marked k) in
        let first : hot_count blocks left block + hot_count_of blocks (interferes blocks marked) c.hot block ≡ hot_count blocks c.hot block =
        sum_balance blocks.count _ _ _ (λ k. split (interferes blocks block k) (c.hot k) (interferes blocks marked k)) in
        let then = marked_hot left marked block lt (ap (λ r. r && not (interferes blocks marked marked)) cold) in
        let same = hot_same (λ k. (k == marked) || (c.hot k && not (interferes blocks marked k))) (with_entry left marked true) block (marks left marked) in
        omega (arith, first, then, same)
      where
        marks : (left : ℕ → Bool) (marked k : ℕ) → ((k == marked) || left k) ≡ with_entry left marked true k
        marks left marked k = by_cases (k == marked) (λ e. ap (λ r. r || left k) e ∙ sym (entry_here left marked k true e)) (λ e. ap (λ r. r || left k) e ∙ sym (entry_else left marked k true e))
    hot_after (Cold worker marked) block may =
        let t = passes (Cold worker marked) may in
        let lt : marked < blocks.count = below marked blocks.count (not_false _ t.1.1.1.0) in
        let is_hot : c.hot marked ≡ true = not_false _ t.1.1.1.1.0 in
        let then = marked_cold c.hot marked block lt is_hot in
        let same = hot_same (λ k. c.hot k && not (k == marked)) (with_entry c.hot marked false) block (cools marked) in
        omega (arith, then, same)
      where
        cools : (marked k : ℕ) → (c.hot k && not (k == marked)) ≡ with_entry c.hot marked false k
        cools marked k = by_cases (k == marked)
            (λ e. ap (λ r. c.hot k && not r) e ∙ and-false (c.hot k) ∙ sym (entry_here c.hot marked k false e))
            (λ e. ap (λ r. c.hot k && not r) e ∙ and-true (c.hot k) ∙ sym (entry_else c.hot marked k false e))
    hot_after (Release worker used memory) block may =
        sum_balance blocks.count _ _ _ (λ k. split_not (interferes blocks block k) (c.hot k) (is_busy blocks settings.workers (with_entry c.leases worker None) k))
    hot_after (Off worker memory) block may = refl
    hot_after (Ended end) block may = refl

pub busy_is_counted : BusyIsCounted
busy_is_counted blocks workers leases block = any_counted workers (λ worker. is_lease_of (interferes blocks block) (leases worker))

pub hot_is_counted : HotIsCounted
hot_is_counted blocks hot block = any_counted blocks.count (λ other. interferes blocks block other && hot other)

pub events_change_busy : EventsChangeBusy
events_change_busy blocks settings counts event block may = busy_after blocks settings counts event block may

pub events_change_hot : EventsChangeHot
events_change_hot blocks settings counts event block may = hot_after blocks settings counts event block may

pub marks_change_hot : MarksChangeHot
marks_change_hot blocks hot marked block lt = (λ cold. marked_hot blocks hot marked block lt cold, λ is_hot. marked_cold blocks hot marked block lt is_hot)

pub interference_is_mutual : InterferenceIsMutual
interference_is_mutual blocks block other = interferes_swap blocks block other

pub counters_fit : CountersFit
counters_fit blocks workers leases hot block = (
  sum_small workers _ (λ worker. one_small (is_lease_of (interferes blocks block) (leases worker))),
  sum_small blocks.count _ (λ other. one_small (interferes blocks block other && hot other)),
)

pub counters_begin_at_none : CountersBeginAtNone
counters_begin_at_none blocks workers leases hot block = (
  λ out. sum_zero workers _ (λ i lt. ap (λ o. one_if (is_lease_of (interferes blocks block) o)) (none_leased (leases i) (any_none workers i (λ k. is_some (leases k)) out lt))),
  λ cold. sum_zero blocks.count _ (λ other lt. ap (λ r. one_if (interferes blocks block other && r)) (cold other) ∙ ap one_if (and-false (interferes blocks block other))),
)
