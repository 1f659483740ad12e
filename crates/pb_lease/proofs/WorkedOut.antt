-- A lease that was worked on is out, at whatever moment the graph is by now.
use Rattle.std.proofs.Common.{◌≡◌, ℕ, Bool, true, List, Option, Some, sym, ap, ◌∙◌, subst, arith}
use Rattle.pb_model.specs.Store.{Rows, Store}
use Rattle.pb_model.specs.Work.{Work}
use Rattle.pb_machine.specs.Counts.{Counts}
use Rattle.pb_machine.specs.Machine.{Machine, IsWorked, lent_store}
use Rattle.pb_machine.specs.Turns.{AreLeaseTurns}
use Rattle.pb_machine.proofs.Callers.{lease_work_stays, recorded_rows_are_lent}
use Rattle.pb_bundles.specs.Parts.{away_rows}
use Rattle.pb_bundles.specs.Homes.{home_rows}
use Rattle.pb_lease.specs.LeaseValue.{LeaseValue, leased_store, IsSameLease}
use Rattle.pb_lease.specs.Leased.{grant_of, IsOut, IsInTurns}
use Rattle.pb_lease.specs.GraphValue.{GraphValue, setup_in, IsOfGraph}
use Rattle.pb_lease.specs.Moments.{IsMomentAt}
use Rattle.pb_lease.specs.Laws.{WorkedLeasesAreOut}

module _ (g : GraphValue) (recorded : (worker : ℕ) → Rows) (machine : Machine) (m : IsMomentAt g recorded machine) (lent lease : LeaseValue) (most_broken : ℕ) (known : Option ℕ → Bool)
    (of : IsOfGraph g lent) (same : IsSameLease lent lease) (is : recorded lent.worker ≡ away_rows lent.parts) (given : machine.given lent.worker ≡ lent.incumbent)
    (reads : (incumbent : Option ℕ) → known incumbent ≡ true → machine.known lent.worker incumbent ≡ true)
    (work : IsWorked (setup_in g).space (setup_in g).guide lent.block lease.used most_broken known (leased_store lent) (leased_store lease)) where
  leased : machine.counts.leases lent.worker ≡ Some (grant_of lent)
  leased = ap (λ (c : Counts). c.leases lent.worker) m.counts ∙ of.leased

  abbrev Lent : (worker block : ℕ) → Store
  Lent worker block = lent_store (setup_in g) block machine.store (machine.given worker)

  -- what was lent is what the machine has for it
  begins : leased_store lent ≡ Lent lent.worker lent.block
  begins = λ i. record {
    rows = λ home state. sym (recorded_rows_are_lent (setup_in g) machine.counts machine.store (home_rows g.homes) recorded lent.worker (grant_of lent) (machine.given lent.worker) m.whole leased home state
        ∙ (λ j. is j home state)) i;
    incumbent = sym given i;
    weight = (of.weight ∙ sym m.lawful.weight) i;
  }

  abbrev Done : (worker block : ℕ) → Store → Type 0
  Done worker block from =
      (all : IsWorked (setup_in g).space (setup_in g).guide block lease.used most_broken (machine.known worker) from (leased_store lease))
      × (AreLeaseTurns (setup_in g).space (setup_in g).guide work.works (leased_store lent) → AreLeaseTurns (setup_in g).space (setup_in g).guide all.works from)

  done : Done lent.worker lent.block (leased_store lent)
  done =
      let stays = lease_work_stays (setup_in g).space (setup_in g).guide lent.block lease.used most_broken most_broken known (machine.known lent.worker) (leased_store lent) (leased_store lease) work (omega arith) reads in
      (stays.0, λ turns. subst (λ (works : List Work). AreLeaseTurns (setup_in g).space (setup_in g).guide works (leased_store lent)) (sym stays.1) turns)

  there : Done lent.worker lent.block (Lent lent.worker lent.block)
  there = subst (λ (from : Store). Done lent.worker lent.block from) begins done

  last : Done lease.worker lease.block (Lent lease.worker lease.block)
  last = subst (λ w. Done w lease.block (Lent w lease.block)) (sym same.worker) (subst (λ b. Done lent.worker b (Lent lent.worker b)) (sym same.block) there)

  pub worked_out : (out : IsOut (setup_in g) machine most_broken lease)
      × (AreLeaseTurns (setup_in g).space (setup_in g).guide work.works (leased_store lent) → IsInTurns (setup_in g) machine most_broken lease out)
  worked_out = (record { leased = ap machine.counts.leases same.worker ∙ leased ∙ (λ i. Some (record { block = sym same.block i; quota = sym same.quota i })); work = last.0 }, last.1)

pub worked_leases_are_out : WorkedLeasesAreOut
worked_leases_are_out g recorded machine m lent lease most_broken known of same is given reads work =
    worked_out g recorded machine m lent lease most_broken known of same is given reads work
