-- Want of memory: which leases were released with it, and which reports wait for their end.
use Rattle.std.proofs.Common.{◌≡◌, ℕ, ◌+◌, ◌<◌, ◌≤◌, Bool, true, false, not, ◌&&◌, ◌||◌, nat_lt, ◌==◌, is_some, is_none, Option, Some, None, sym, ap, ◌∙◌, ◌⊎◌, inl, inr, arith, true≢false, refl}
use Rattle.std.specs.List.{AllByRecursion}
use Rattle.std.proofs.Math.Bool.{and-false}
use Rattle.std.proofs.lemmas.Bool.{or_from}
use Rattle.pb_model.proofs.Callers.{and_true, or_false, not_false, not_both, equal, by_cases, below, not_below}
use Rattle.pb_machine.specs.Laws.{WaitingReportsAreOne}
use Rattle.pb_machine.specs.declared.event.End.{End}
use Rattle.pb_machine.specs.declared.event.End.TheVariants.{Quiet, Budget, Memory}
use Rattle.pb_machine.specs.declared.event.Event.TheVariants.{Release, Off, Ended}
use Rattle.pb_machine.specs.declared.event.Grant.{Grant}
use Rattle.pb_machine.specs.Tables.{with_entry, one_if, count_below}
use Rattle.pb_machine.specs.Counts.{Counts, is_any_out, counts_after}
use Rattle.pb_machine.specs.Legality.{refusal, tests}
use Rattle.pb_machine.specs.Machine.{Setup, Machine}
use Rattle.pb_machine.specs.Lawful.{broken_leases, AreReported, IsLawful, IsOnlyReporter}
use Rattle.pb_machine.proofs.TableLaws.{entry_here, entry_else, one_small, sum_with_entry, sums_small, none_counted, count_more, count_grows, count_some, count_two, counted_some}
use Rattle.pb_machine.proofs.CountsLaws.{passes, no_trouble, nobody, within, none_end, still, out_still}

-- ---- how many leases are out

abbrev pub leases_out : (workers : ℕ) → (ℕ → Option Grant) → ℕ
leases_out workers leases = count_below workers (λ worker. is_some (leases worker))

abbrev one_of : Option Grant → ℕ
one_of o = one_if (is_some o)

-- one less after a lease came back
pub out_less : (n i : ℕ) (leases : ℕ → Option Grant) (grant : Grant) → i < n → leases i ≡ Some grant → leases_out n (with_entry leases i None) + 1 ≡ leases_out n leases
out_less n i leases grant lt is =
    let sums = sum_with_entry one_of n i leases None lt in
    let one : one_of (leases i) ≡ 1 = ap one_of is in
    omega arith

-- ---- what was broken off, and what was reported

module _ (p : Setup) where
  -- no more expansions were broken off than there are workers without a lease
  pub few_broken : (m : Machine) → IsLawful p m → broken_leases p m + leases_out p.settings.workers m.counts.leases ≤ p.settings.workers
  few_broken m l = sums_small p.settings.workers (λ k. one_if (m.broken k)) (λ k. one_of (m.counts.leases k)) (λ k. by_cases (m.broken k) (λ e. done k e) (λ e. unbroken k e))
    where
      done : (k : ℕ) → m.broken k ≡ true → one_if (m.broken k) + one_of (m.counts.leases k) ≤ 1
      done k e = let one : one_if (m.broken k) ≡ 1 = ap one_if e in let none : one_of (m.counts.leases k) ≡ 0 = ap one_of (l.reported.released k e).1 in omega (arith, one, none)

      unbroken : (k : ℕ) → m.broken k ≡ false → one_if (m.broken k) + one_of (m.counts.leases k) ≤ 1
      unbroken k e = let none : one_if (m.broken k) ≡ 0 = ap one_if e in let few = one_small (is_some (m.counts.leases k)) in omega (arith, none, few)

  -- while no report waits, a lease that was released with want of memory is followed by that end
  pub broken_end : (m : Machine) → IsLawful p m → m.counts.trouble ≡ false → (k : ℕ) → m.broken k ≡ true → m.counts.end ≡ Some Memory
  broken_end m l none k e = go (l.reported.released k e).2
    where
      go : ((m.counts.trouble ≡ true) ⊎ (m.counts.end ≡ Some Memory)) → m.counts.end ≡ Some Memory
      go (inl t) = not_both m.counts.trouble t none
      go (inr t) = t

  -- so none was, while no end stands either
  pub none_broken : (m : Machine) → IsLawful p m → m.counts.trouble ≡ false → is_some m.counts.end ≡ false → (k : ℕ) → m.broken k ≡ true → {A : Type 0} → A
  none_broken m l none no_end k e = still p.blocks p.settings m.counts.end Memory no_end (broken_end m l none k e)

  pub none_reported : (m : Machine) → IsLawful p m → m.counts.trouble ≡ false → is_some m.counts.end ≡ false → broken_leases p m ≡ 0
  none_reported m l none no_end = none_counted p.settings.workers m.broken (λ k lt. by_cases (m.broken k) (λ e. none_broken m l none no_end k e) (λ e. e))

  -- an event that neither reports want of memory nor ends the search keeps what holds of the reports
  pub reported_still : (m : Machine) (c : Counts) → IsLawful p m → m.counts.trouble ≡ false → c.trouble ≡ false → c.end ≡ m.counts.end → ((k : ℕ) → m.broken k ≡ true → c.leases k ≡ None)
      → count_below p.settings.workers m.counts.signed_off ≤ count_below p.settings.workers c.signed_off → AreReported p.settings.workers c m.broken
  reported_still m c l none still_none same leases more = record {
    released = λ k e. ((l.reported.released k e).0, leases k e, inr (same ∙ broken_end m l none k e));
    waiting = λ h. not_both c.trouble h still_none;
    ended = λ h. let one = l.reported.ended (sym same ∙ h) in omega (arith, one, more);
  }

  -- one more, where a lease is released so
  pub broken_more : (m : Machine) (i : ℕ) (grant : Grant) → IsLawful p m → m.counts.leases i ≡ Some grant → count_below p.settings.workers (with_entry m.broken i true) ≡ broken_leases p m + 1
  broken_more m i grant l leased = count_more p.settings.workers i m.broken (l.counts.known i grant leased).0 new
    where
      new : m.broken i ≡ false
      new = by_cases (m.broken i) (λ e. let bad : ◌≡◌ {A = Option Grant} None (Some grant) = sym (l.reported.released i e).1 ∙ leased in cc) (λ e. e)

  -- a release with want of memory reports it, at its end or before it
  pub reported_release : (m : Machine) (i used : ℕ) (grant : Grant) → IsLawful p m → m.counts.trouble ≡ false → m.counts.leases i ≡ Some grant
      → AreReported p.settings.workers (counts_after p.blocks p.settings m.counts (Release i used true)) (with_entry m.broken i true)
  reported_release m i used grant l none leased = record {
    released = λ k e. by_cases (k == i)
        (λ here. (omega (arith, equal k i here, inside), entry_here m.counts.leases i k None here, ends))
        (λ other. let was : m.broken k ≡ true = sym (entry_else m.broken i k true other) ∙ e in
        ((l.reported.released k was).0, entry_else m.counts.leases i k None other ∙ (l.reported.released k was).1, inr (broken_end m l none k was)));
    waiting = λ h.
        let no_end : is_some m.counts.end ≡ false = ap is_some (none_end m.counts.end h) in
        let before = none_reported m l none no_end in
        let off = nobody p.blocks p.settings m.counts l.counts no_end none in
        omega (arith, one, before, off);
    ended = λ h. omega (arith, one);
  }
    where
      inside : i < p.settings.workers
      inside = (l.counts.known i grant leased).0

      out : is_any_out p.settings.workers m.counts.leases ≡ true
      out = out_still p.blocks p.settings m.counts.leases i grant inside leased

      one : count_below p.settings.workers (with_entry m.broken i true) ≡ broken_leases p m + 1
      one = broken_more m i grant l leased

      ends : (is_none m.counts.end ≡ true) ⊎ (m.counts.end ≡ Some Memory)
      ends = go m.counts.end refl
        where
          go : (o : Option End) → m.counts.end ≡ o → (is_none m.counts.end ≡ true) ⊎ (m.counts.end ≡ Some Memory)
          go None e = inl (ap is_none e)
          go (Some Quiet) e = not_both (is_any_out p.settings.workers m.counts.leases) out (l.counts.quiet e)
          go (Some Budget) e = not_both (is_any_out p.settings.workers m.counts.leases) out (l.counts.budget e).0
          go (Some Memory) e = inr e

  -- a sign-off may report it too
  pub reported_off : (m : Machine) (i : ℕ) (memory : Bool) → IsLawful p m → refusal p.blocks p.settings m.counts (Off i memory) ≡ None
      → AreReported p.settings.workers (counts_after p.blocks p.settings m.counts (Off i memory)) m.broken
  reported_off m i memory l may = record {
    released = λ k e. ((l.reported.released k e).0, (l.reported.released k e).1, inr (broken_end m l none k e));
    waiting = λ h.
        let no_end : is_some m.counts.end ≡ false = ap is_some (none_end m.counts.end (and_true memory (is_none m.counts.end) h).1) in
        let before = none_reported m l none no_end in
        let off = nobody p.blocks p.settings m.counts l.counts no_end none in
        let one = count_more p.settings.workers i m.counts.signed_off (within p.blocks p.settings m.counts i t.0) (or_false (not (nat_lt i p.settings.workers)) (m.counts.signed_off i) t.0).1 in
        omega (arith, before, off, one);
    ended = λ h. let one = l.reported.ended h in let more = count_grows p.settings.workers i m.counts.signed_off (within p.blocks p.settings m.counts i t.0) in omega (arith, one, more);
  }
    where
      none : m.counts.trouble ≡ false
      none = no_trouble p.blocks p.settings m.counts (Off i memory) refl may

      t : AllByRecursion (λ t. t.0 ≡ false) (tests p.blocks p.settings m.counts (Off i memory))
      t = passes p.blocks p.settings m.counts (Off i memory) may

  -- the end that follows from a report, or another one
  pub reported_end : (m : Machine) (e : End) → IsLawful p m → refusal p.blocks p.settings m.counts (Ended e) ≡ None → AreReported p.settings.workers (counts_after p.blocks p.settings m.counts (Ended e)) m.broken
  reported_end m Quiet l may = record {
    released = λ k e. none_broken m l (no_trouble p.blocks p.settings m.counts (Ended Quiet) refl may) (passes p.blocks p.settings m.counts (Ended Quiet) may).0 k e;
    waiting = λ h. absurd (true≢false (sym h));
    ended = λ (h : ◌≡◌ {A = Option End} (Some Quiet) (Some Memory)). cc;
  }
  reported_end m Budget l may = record {
    released = λ k e. none_broken m l (no_trouble p.blocks p.settings m.counts (Ended Budget) refl may) (passes p.blocks p.settings m.counts (Ended Budget) may).0 k e;
    waiting = λ h. absurd (true≢false (sym h));
    ended = λ (h : ◌≡◌ {A = Option End} (Some Budget) (Some Memory)). cc;
  }
  reported_end m Memory l may = record {
    released = λ k e. ((l.reported.released k e).0, (l.reported.released k e).1, inr refl);
    waiting = λ h. absurd (true≢false (sym h));
    ended = λ h. let one = l.reported.waiting (not_false m.counts.trouble (passes p.blocks p.settings m.counts (Ended Memory) may).1.0) in omega (arith, one);
  }

-- ---- a report that waits is of one worker

pub waiting_reports_are_one : WaitingReportsAreOne
waiting_reports_are_one setup machine l waits = which (by_cases (nat_lt 0 (broken_leases setup machine)) (λ e. inl (below 0 (broken_leases setup machine) e)) (λ e. inr (not_below 0 (broken_leases setup machine) e)))
  where
    one : broken_leases setup machine + count_below setup.settings.workers machine.counts.signed_off ≡ 1
    one = l.reported.waiting waits

    -- the one that released with want of memory
    released : (k : ℕ) → k < setup.settings.workers → machine.broken k ≡ true → 0 < broken_leases setup machine → IsOnlyReporter setup machine k
    released k there is some = record {
      known = there;
      reported = ap (λ r. r || machine.counts.signed_off k) is;
      once = ap (λ r. machine.broken k && r) (no_off k) ∙ and-false (machine.broken k);
      unleased = (l.reported.released k is).1;
      no_other = λ j other. or_from (machine.broken j) (machine.counts.signed_off j) (no_other j other) (no_off j);
    }
      where
        no_off : (j : ℕ) → machine.counts.signed_off j ≡ false
        no_off j = by_cases (machine.counts.signed_off j)
            (λ e. let off = count_some setup.settings.workers j machine.counts.signed_off (l.counts.off j e).0 e in absurd (omega (arith, one, some, off)))
            (λ e. e)

        no_other : (j : ℕ) → (j == k) ≡ false → machine.broken j ≡ false
        no_other j other = by_cases (machine.broken j)
            (λ e. let two = count_two setup.settings.workers k j machine.broken there (l.reported.released j e).0 other is e in absurd (omega (arith, one, two)))
            (λ e. e)

    -- or the one that signed off
    signed : (k : ℕ) → k < setup.settings.workers → machine.counts.signed_off k ≡ true → IsOnlyReporter setup machine k
    signed k there is = record {
      known = there;
      reported = ap (λ r. r || machine.counts.signed_off k) (none_broken k) ∙ is;
      once = ap (λ r. r && machine.counts.signed_off k) (none_broken k);
      unleased = (l.counts.off k is).1;
      no_other = λ j other. or_from (machine.broken j) (machine.counts.signed_off j) (none_broken j) (no_other j other);
    }
      where
        off : 0 < count_below setup.settings.workers machine.counts.signed_off
        off = count_some setup.settings.workers k machine.counts.signed_off there is

        none_broken : (j : ℕ) → machine.broken j ≡ false
        none_broken j = by_cases (machine.broken j)
            (λ e. let some = count_some setup.settings.workers j machine.broken (l.reported.released j e).0 e in absurd (omega (arith, one, some, off)))
            (λ e. e)

        no_other : (j : ℕ) → (j == k) ≡ false → machine.counts.signed_off j ≡ false
        no_other j other = by_cases (machine.counts.signed_off j)
            (λ e. let two = count_two setup.settings.workers k j machine.counts.signed_off there (l.counts.off j e).0 other is e in absurd (omega (arith, one, two)))
            (λ e. e)

    which : ((0 < broken_leases setup machine) ⊎ (broken_leases setup machine ≤ 0)) → (k : ℕ) × IsOnlyReporter setup machine k
    which (inl some) = let w = counted_some setup.settings.workers machine.broken some in (w.0, released w.0 w.1 w.2 some)
    which (inr none) = let w = counted_some setup.settings.workers machine.counts.signed_off (omega (arith, one, none)) in (w.0, signed w.0 w.1 w.2)
