-- From one moment of a graph to the next: events that move no row. Leases that are out stay as they are.
use Rattle.std.proofs.Common.{◌≡◌, ℕ, Bool, false, List, [], ◌∷◌, Option, Some, None, refl, sym, ap, ◌∙◌, subst}
use Rattle.pb_model.specs.Store.{Rows}
use Rattle.pb_task.specs.Parts.{greatest_cost}
use Rattle.pb_machine.specs.declared.event.End.{End}
use Rattle.pb_machine.specs.declared.event.End.TheVariants.{Quiet, Budget, Memory}
use Rattle.pb_machine.specs.declared.event.Event.{Event}
use Rattle.pb_machine.specs.declared.event.Event.TheVariants.{Hot, Cold, Off, Ended}
use Rattle.pb_machine.specs.Counts.{Counts, counts_after}
use Rattle.pb_machine.specs.Legality.{refusal}
use Rattle.pb_machine.specs.Machine.{Machine, RowPart, event_move}
use Rattle.pb_machine.specs.Turns.{IsInOrder, RunsInOrder}
use Rattle.pb_machine.specs.Whole.{IsWhole}
use Rattle.pb_machine.proofs.Callers.{ends_are_legal, runs_are_lawful, ordered_runs_are_runs, others_keep_whole}
use Rattle.pb_bundles.specs.Homes.{HomeTable, key_at, home_rows}
use Rattle.pb_bundles.specs.Stores.{HasKeys}
use Rattle.pb_bundles.proofs.Callers.{opened_is_by_key, betters_are_by_key}
use Rattle.pb_lease.specs.Tables.{blocks}
use Rattle.pb_lease.specs.Events.{Adds, counts_along, ending}
use Rattle.pb_lease.specs.GraphValue.{GraphValue, setup_in, counts_in, IsLeaseGraph}
use Rattle.pb_lease.specs.Choices.{is_out_in, IsDone, IsOutranked}
use Rattle.pb_lease.specs.Moments.{IsMomentAt, moves_of}
use Rattle.pb_lease.specs.Steps.{KeepsLeases, end_events}
use Rattle.pb_lease.proofs.GraphBasics.{setup_is}
use Rattle.pb_lease.proofs.MomentSteps.{same_setup, moment_as, may_then}
use Rattle.pb_lease.proofs.MomentReturns.{then_ended, ending_leases}

module _ (old : GraphValue) (k : IsLeaseGraph old) (events : List Event) (new : GraphValue) (adds : Adds old.table new.table events) (rest : new ≡ record old { table = new.table }) where
  abbrev After : Machine → Machine
  After machine = record machine { counts = counts_along (blocks old.table) old.table.settings machine.counts events }

  -- these events run, and change no lease
  pub keeps_next : ((recorded : (worker : ℕ) → Rows) (machine : Machine) → IsMomentAt old recorded machine → RunsInOrder (setup_in old) machine (moves_of events) (After machine))
      → ((counts : Counts) → (counts_along (blocks old.table) old.table.settings counts events).leases ≡ counts.leases) → KeepsLeases old events new
  keeps_next runs leases recorded machine m = (
    After machine,
    record {
      setup = setup;
      moves = ordered_runs_are_runs (setup_in old) (moves_of events) machine (After machine) (runs recorded machine m);
      moment = moment_as old new recorded (After machine) setup
          (runs_are_lawful (setup_in old) greatest_cost (moves_of events) machine (After machine) (setup_is old k) m.lawful (ordered_runs_are_runs (setup_in old) (moves_of events) machine (After machine) (runs recorded machine m)))
          (ap (λ (c : Counts). counts_along (blocks old.table) old.table.settings c events) m.counts ∙ sym adds.counts)
          (subst (λ (h : HomeTable). IsWhole (setup_in old) (After machine).counts (home_rows h) recorded machine.store) (sym (ap (λ (g : GraphValue). g.homes) rest))
          (others_keep_whole (setup_in old) machine.counts (After machine).counts machine.store machine.store (home_rows old.homes) recorded (leases machine.counts) refl m.whole))
          (λ worker. ap (λ (g : GraphValue). machine.known worker g.incumbent) rest ∙ m.incumbent worker)
          (subst (λ (h : HomeTable). HasKeys machine.store (key_at h)) (sym (ap (λ (g : GraphValue). g.homes) rest)) m.keys);
    },
    (refl, refl, refl, refl, refl),
    leases machine.counts,
    runs recorded machine m,
  )
    where
      setup : setup_in new ≡ setup_in old
      setup = same_setup old new (ap (λ (g : GraphValue). g.task) rest) (ap (λ (g : GraphValue). g.choice) rest) adds.abstraction adds.settings adds.past

-- ---- one event that may come

module _ (old : GraphValue) (event : Event) (may : refusal (blocks old.table) old.table.settings (counts_in old) event ≡ None) (recorded : (worker : ℕ) → Rows) (machine : Machine) (m : IsMomentAt old recorded machine) where
  one_runs : RowPart (setup_in old) machine event (record machine { counts = counts_after (blocks old.table) old.table.settings machine.counts event })
      → IsInOrder (setup_in old) machine (event_move event) (record machine { counts = counts_after (blocks old.table) old.table.settings machine.counts event })
      → RunsInOrder (setup_in old) machine (moves_of (event ∷ [])) (record machine { counts = counts_after (blocks old.table) old.table.settings machine.counts event })
  one_runs rows order = (
    record machine { counts = counts_after (blocks old.table) old.table.settings machine.counts event },
    record { may = may_then old old machine event m.counts may; counts = refl; rows = rows },
    order,
    refl,
  )

-- ---- marks

pub marked_next : (old : GraphValue) → IsLeaseGraph old → (worker block : ℕ) (new : GraphValue) → Adds old.table new.table (Hot worker block ∷ []) → new ≡ record old { table = new.table }
    → refusal (blocks old.table) old.table.settings (counts_in old) (Hot worker block) ≡ None → (IsOutranked old block → ⊥) → KeepsLeases old (Hot worker block ∷ []) new
marked_next old k worker block new adds rest may none = keeps_next old k (Hot worker block ∷ []) new adds rest
    (λ recorded machine m. one_runs old (Hot worker block) may recorded machine m (
      λ other near hot better. none (other, near, ap (λ (c : Counts). c.hot other) (sym m.counts) ∙ hot, (betters_are_by_key machine.store (key_at old.homes) m.keys other block).1 better),
      (refl, refl, refl, refl, refl),
    ) tt)
    (λ counts. refl)

pub cooled_next : (old : GraphValue) → IsLeaseGraph old → (worker block : ℕ) (new : GraphValue) → Adds old.table new.table (Cold worker block ∷ []) → new ≡ record old { table = new.table }
    → refusal (blocks old.table) old.table.settings (counts_in old) (Cold worker block) ≡ None → KeepsLeases old (Cold worker block ∷ []) new
cooled_next old k worker block new adds rest may = keeps_next old k (Cold worker block ∷ []) new adds rest
    (λ recorded machine m. one_runs old (Cold worker block) may recorded machine m (refl, refl, refl, refl, refl) tt) (λ counts. refl)

-- ---- an end

pub ended_is_legal : (old : GraphValue) (end : End) → old.table.end ≡ None → is_out_in old ≡ false → IsDone old end → refusal (blocks old.table) old.table.settings (counts_in old) (Ended end) ≡ None
ended_is_legal old Quiet none home done = (ends_are_legal (blocks old.table) old.table.settings (counts_in old) none).0 refl home
ended_is_legal old Budget none home done = (ends_are_legal (blocks old.table) old.table.settings (counts_in old) none).1 refl home done.1
ended_is_legal old Memory none home done = absurd done

pub ended_next : (old : GraphValue) → IsLeaseGraph old → (end : End) (new : GraphValue) → Adds old.table new.table (Ended end ∷ []) → new ≡ record old { table = new.table }
    → old.table.end ≡ None → is_out_in old ≡ false → IsDone old end → KeepsLeases old (Ended end ∷ []) new
ended_next old k end new adds rest none home done = keeps_next old k (Ended end ∷ []) new adds rest
    (λ recorded machine m. one_runs old (Ended end) (ended_is_legal old end none home done) recorded machine m (rows end recorded machine m done) tt) (λ counts. refl)
  where
    rows : (e : End) (recorded : (worker : ℕ) → Rows) (machine : Machine) → IsMomentAt old recorded machine → IsDone old e
        → RowPart (setup_in old) machine (Ended e) (record machine { counts = counts_after (blocks old.table) old.table.settings machine.counts (Ended e) })
    rows Quiet recorded machine m d = ((opened_is_by_key machine.store (key_at old.homes) m.keys).2.0 d, (refl, refl, refl, refl, refl))
    rows Budget recorded machine m d = ((opened_is_by_key machine.store (key_at old.homes) m.keys).1.0 d.0, (refl, refl, refl, refl, refl))
    rows Memory recorded machine m d = absurd d

-- an end that stood changes nothing
pub stood_next : (old : GraphValue) → IsLeaseGraph old → (end standing : End) → old.table.end ≡ Some standing → KeepsLeases old (end_events old.table.end end) old
stood_next old k end standing stands = subst (λ (o : Option End). KeepsLeases old (end_events o end) old) (sym stands)
    (λ recorded machine m. (machine, record { setup = refl; moves = refl; moment = m }, (refl, refl, refl, refl, refl), refl, refl))

-- ---- a worker that signs off

pub signed_off_next : (old : GraphValue) → IsLeaseGraph old → (worker : ℕ) (memory : Bool) (new : GraphValue) → Adds old.table new.table (Off worker memory ∷ ending memory old.table.end) → new ≡ record old { table = new.table }
    → refusal (blocks old.table) old.table.settings (counts_in old) (Off worker memory) ≡ None → KeepsLeases old (Off worker memory ∷ ending memory old.table.end) new
signed_off_next old k worker memory new adds rest may = keeps_next old k (Off worker memory ∷ ending memory old.table.end) new adds rest
    (λ recorded machine m. (
      record machine { counts = counts_after (blocks old.table) old.table.settings machine.counts (Off worker memory) },
      record { may = may_then old old machine (Off worker memory) m.counts may; counts = refl; rows = (refl, refl, refl, refl, refl) },
      tt,
      then_ended (setup_in old) memory (counts_after (blocks old.table) old.table.settings (counts_in old) (Off worker memory))
          (record machine { counts = counts_after (blocks old.table) old.table.settings machine.counts (Off worker memory) })
          (ap (λ (c : Counts). counts_after (blocks old.table) old.table.settings c (Off worker memory)) m.counts) refl,
    ))
    (λ counts. ending_leases (blocks old.table) old.table.settings (counts_after (blocks old.table) old.table.settings counts (Off worker memory)) memory old.table.end)
