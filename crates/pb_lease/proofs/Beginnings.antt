-- The beginnings of a run: the machine that it begins with, and which graphs begin one.
use Rattle.std.proofs.Common.{◌≡◌, ℕ, true, false, List, [], Option, Some, None, refl, sym, ap, ◌∙◌, subst, true≢false, ⊎_elim}
use Rattle.std.proofs.lemmas.Option.{same_Some}
use Rattle.pb_model.specs.Weight.{Weight, IsWeight}
use Rattle.pb_model.specs.Store.{Rows, Store}
use Rattle.pb_model.specs.Work.{reopened_row}
use Rattle.pb_model.proofs.Callers.{by_cases, equal, equal_self}
use Rattle.pb_task.specs.Parts.{greatest_cost}
use Rattle.pb_machine.specs.declared.event.End.{End}
use Rattle.pb_machine.specs.declared.event.End.TheVariants.{Quiet, Memory}
use Rattle.pb_machine.specs.declared.event.Event.{Event}
use Rattle.pb_machine.specs.declared.event.Grant.{Grant}
use Rattle.pb_machine.specs.declared.settings.Settings.{Settings}
use Rattle.pb_machine.specs.Settings.{weight_of}
use Rattle.pb_machine.specs.Counts.{Counts, opening_counts, is_any_out}
use Rattle.pb_machine.specs.History.{replay}
use Rattle.pb_machine.specs.Machine.{Setup, is_same, Machine}
use Rattle.pb_machine.specs.Lawful.{IsLawful, reopened_machine, reopened_setup}
use Rattle.pb_machine.specs.Laws.{ReopeningIsLawful}
use Rattle.pb_machine.proofs.Callers.{any_false, all_is_home, recorded_where_leased}
use Rattle.pb_bundles.specs.Homes.{key_at, home_rows}
use Rattle.pb_bundles.specs.Stores.{HasKeys}
use Rattle.pb_lease.specs.Tables.{blocks}
use Rattle.pb_lease.specs.Leased.{setup_of}
use Rattle.pb_lease.specs.GraphValue.{GraphValue, setup_in, counts_in, IsLeaseGraph}
use Rattle.pb_lease.specs.Choices.{is_out_in}
use Rattle.pb_lease.specs.Moments.{IsMomentAt, IsMoment}
use Rattle.pb_lease.specs.Begins.{home_store, begin_machine, IsBegin, KnowsAlone, LawfulMomentsBegin, IsReopened, ReopenedGraphsBegin, FitsWord, IsFirstMoment, BeginsAgain}
use Rattle.pb_lease.proofs.GraphBasics.{setup_is, lawful_in, all_rows}
use Rattle.pb_lease.proofs.AtHome.{home_rows_are_whole}

-- ---- costs that are the same

pub same_self : (incumbent : Option ℕ) → is_same incumbent incumbent ≡ true
same_self None = refl
same_self (Some cost) = equal_self cost

pub same_is : (first second : Option ℕ) → is_same first second ≡ true → first ≡ second
same_is None None is = refl
same_is None (Some other) is = absurd (true≢false (sym is))
same_is (Some cost) None is = absurd (true≢false (sym is))
same_is (Some cost) (Some other) is = ap (λ n. Some n) (equal cost other is)

-- ---- a graph without an event

module _ (g : GraphValue) (k : IsLeaseGraph g) (empty : g.table.journal ≡ []) where
  pub begin_counts : counts_in g ≡ opening_counts g.table.settings g.table.past.spent
  begin_counts = same_Some (counts_in g) (opening_counts g.table.settings g.table.past.spent)
      (sym k.legal.replays ∙ ap (λ (j : List Event). replay (blocks g.table) g.table.settings (opening_counts g.table.settings g.table.past.spent) j) empty)

  pub begin_home : is_out_in g ≡ false
  begin_home = ap (λ (c : Counts). is_any_out g.table.settings.workers c.leases) begin_counts ∙ any_false g.table.settings.workers (λ worker. false) (λ worker. refl)

  module _ (recorded : (worker : ℕ) → Rows) (machine : Machine) (m : IsMoment g recorded machine) where
    counts : machine.counts ≡ opening_counts g.table.settings g.table.past.spent
    counts = m.at.counts ∙ begin_counts

    whole_at : (other : (worker : ℕ) → Rows) → IsMomentAt g other machine
    whole_at other = record {
      lawful = m.at.lawful;
      counts = m.at.counts;
      whole = recorded_where_leased (setup_in g) machine.counts machine.store (home_rows g.homes) recorded other none_leased m.at.whole;
      keys = m.at.keys;
      incumbent = m.at.incumbent;
    }
      where
        none_leased : (worker : ℕ) (grant : Grant) → machine.counts.leases worker ≡ Some grant → other worker ≡ recorded worker
        none_leased worker grant is = let bad : Some grant ≡ None = sym is ∙ ap (λ (c : Counts). c.leases worker) counts in absurd cc

    unbroken : (worker : ℕ) → machine.broken worker ≡ false
    unbroken worker = by_cases (machine.broken worker)
        (λ e. absurd (⊎_elim (λ (waits : machine.counts.trouble ≡ true). true≢false (sym waits ∙ ap (λ (c : Counts). c.trouble) counts))
        (λ (ends : machine.counts.end ≡ Some Memory). let bad : ◌≡◌ {A = Option End} None (Some Memory) = sym (ap (λ (c : Counts). c.end) counts) ∙ ends in cc)
        (m.at.lawful.reported.released worker e).2))
        (λ e. e)

    module _ (alone : KnowsAlone machine g.incumbent) where
      known : (worker : ℕ) (other : Option ℕ) → machine.known worker other ≡ is_same other g.incumbent
      known worker other = by_cases (is_same other g.incumbent)
          (λ e. ap (machine.known worker) (same_is other g.incumbent e) ∙ m.at.incumbent worker ∙ sym e)
          (λ e. by_cases (machine.known worker other)
          (λ told. absurd (true≢false (sym (same_self g.incumbent) ∙ ap (λ o. is_same o g.incumbent) (sym (alone worker other told)) ∙ e)))
          (λ none. none ∙ sym e))

      is_begin : machine ≡ begin_machine g
      is_begin = λ i. record {
        counts = counts i;
        store = home_rows_are_whole g recorded machine k begin_home m i;
        given = λ worker. alone worker (machine.given worker) (m.at.lawful.given worker) i;
        told = λ worker. m.untold worker i;
        known = λ worker other. known worker other i;
        broken = λ worker. unbroken worker i;
      }

      first_moment : IsFirstMoment g
      first_moment = record {
        empty = empty;
        moment = λ other. subst (λ (n : Machine). IsMoment g other n) is_begin (record { at = whole_at other; incumbent = m.incumbent; untold = m.untold });
      }

      begins : FitsWord g.incumbent → IsBegin g
      begins fits = record { empty = empty; moment = first_moment.moment; fits = fits }

pub lawful_moments_begin : LawfulMomentsBegin
lawful_moments_begin g recorded machine k empty m alone fits = (is_begin g k empty recorded machine m alone, begins g k empty recorded machine m alone fits)

-- ---- a graph that was opened again

module _ (reopening_is_lawful : ReopeningIsLawful) (old new : GraphValue) (weight : Weight) (recorded : (worker : ℕ) → Rows) (machine : Machine) (k : IsLeaseGraph old) (m : IsMoment old recorded machine) (quiet : old.table.end ≡ Some Quiet)
    (is_weight : IsWeight weight) (kept : IsLeaseGraph new) (r : IsReopened old weight new) where
  abbrev Next : Machine
  Next = reopened_machine (setup_in old) weight machine

  setup : setup_in new ≡ reopened_setup (setup_in old) weight
  setup = λ i. setup_of (r.task i) (r.abstraction i) (r.choice i) (r.settings i) (r.reopenings i)

  home : is_out_in old ≡ false
  home = (lawful_in old k).quiet quiet

  lawful : IsLawful (setup_in new) Next
  lawful = subst (λ (s : Setup). IsLawful s Next) (sym setup)
      (reopening_is_lawful (setup_in old) greatest_cost weight machine (setup_is old k) m.at.lawful (ap (λ (c : Counts). c.end) m.at.counts ∙ quiet) is_weight).1

  next_counts : Next.counts ≡ counts_in new
  next_counts = ap (λ n. opening_counts old.table.settings n) (ap (λ (c : Counts). c.spent) m.at.counts ∙ sym r.spent)
      ∙ ap (λ (s : Settings). opening_counts s new.table.past.spent) (sym r.settings) ∙ sym (begin_counts new kept r.journal)

  incumbent : machine.store.incumbent ≡ new.incumbent
  incumbent = m.incumbent ∙ sym r.incumbent

  rows : (block state : ℕ) → Next.store.rows block state ≡ home_rows new.homes block state
  rows block state = ap (λ o. reopened_row weight o (machine.store.rows block state)) m.incumbent
      ∙ ap (reopened_row weight old.incumbent) (all_rows old k recorded machine m.at home block state) ∙ sym (r.rows block state)

  store : Next.store ≡ home_store new
  store = λ i. record { rows = λ block state. rows block state i; incumbent = incumbent i; weight = ap weight_of (sym r.settings) i }

  moment : IsMoment new recorded Next
  moment = record {
    at = record {
      lawful = lawful;
      counts = next_counts;
      whole = (all_is_home (setup_in new) Next.counts Next.store (home_rows new.homes) recorded lawful.counts
          (any_false new.table.settings.workers (λ worker. false) (λ worker. refl))).1 rows;
      keys = subst (λ (s : Store). HasKeys s (key_at new.homes)) (sym store) r.keys;
      incumbent = λ worker. ap (λ o. is_same o machine.store.incumbent) (sym incumbent) ∙ same_self machine.store.incumbent;
    };
    incumbent = incumbent;
    untold = λ worker. refl;
  }

  alone : KnowsAlone Next new.incumbent
  alone worker other is = same_is other machine.store.incumbent is ∙ incumbent

  pub again : IsFirstMoment new × (FitsWord old.incumbent → IsBegin new) × (setup_in new ≡ reopened_setup (setup_in old) weight) × (begin_machine new ≡ Next)
  again = (
    first_moment new kept r.journal recorded Next moment alone,
    λ fits. begins new kept r.journal recorded Next moment alone (λ cost is. fits cost (sym r.incumbent ∙ is)),
    setup,
    sym (is_begin new kept r.journal recorded Next moment alone),
  )

pub reopened_graphs_begin : ReopeningIsLawful → ReopenedGraphsBegin
reopened_graphs_begin reopens old new weight recorded machine k m quiet is_weight fits kept r = (again reopens old new weight recorded machine k m quiet is_weight kept r).1 fits

pub begins_again : ReopeningIsLawful → (old new : GraphValue) (weight : Weight) → IsLeaseGraph old → old.table.end ≡ Some Quiet → IsWeight weight → IsLeaseGraph new → IsReopened old weight new → BeginsAgain old weight new
begins_again reopens old new weight k quiet is_weight kept r recorded machine m = again reopens old new weight recorded machine k m quiet is_weight kept r
