-- From one moment to the next where both graphs have their machine's incumbent: the events are in order, and the next is such a moment.
use Rattle.std.proofs.Common.{◌≡◌, ℕ, Bool, true, is_some, List, ◌∷◌, [], Option, sym, ap, ◌∙◌, subst, true≢false}
use Rattle.pb_model.specs.Store.{Rows, Store, lesser}
use Rattle.pb_machine.specs.declared.event.Event.{Event}
use Rattle.pb_machine.specs.declared.event.Event.TheVariants.{Lease, Renew, Release}
use Rattle.pb_machine.specs.declared.event.Grant.{Grant}
use Rattle.pb_machine.specs.Tables.{with_entry, one_if}
use Rattle.pb_machine.specs.Machine.{Setup, Machine, with_incumbent}
use Rattle.pb_machine.proofs.Callers.{known_new}
use Rattle.pb_bundles.specs.Parts.{away_rows}
use Rattle.pb_lease.specs.Events.{ending}
use Rattle.pb_lease.specs.LeaseValue.{LeaseValue}
use Rattle.pb_lease.specs.Leased.{IsOutInTurns}
use Rattle.pb_lease.specs.GraphValue.{GraphValue, setup_in}
use Rattle.pb_lease.specs.Moments.{IsMoment, FollowsInOrder, ShowsTold, IsKnownThen, brought_incumbent}
use Rattle.pb_lease.specs.Steps.{LeasesNext, KeepsLeases, ReleasesNext, RenewsNext}
use Rattle.pb_lease.proofs.MomentSteps.{none_told}
use Rattle.pb_lease.proofs.StaysOut.{kept}

-- events that move no row
pub keeps_in_order : (old : GraphValue) (events : List Event) (new : GraphValue) → KeepsLeases old events new → new.incumbent ≡ old.incumbent
    → (recorded : (worker : ℕ) → Rows) (machine : Machine) → IsMoment old recorded machine
    → (next : Machine) × FollowsInOrder old machine events new recorded next
    × ((lease : LeaseValue) (most_broken : ℕ) → IsOutInTurns (setup_in old) machine most_broken lease → IsOutInTurns (setup_in new) next most_broken lease)
keeps_in_order old events new keeps same recorded machine m =
    let step = keeps recorded machine m.at in (
      step.0,
      record {
        setup = step.1.setup;
        moves = step.4;
        moment = record {
          at = step.1.moment;
          incumbent = ap (λ (s : Store). s.incumbent) step.2.0 ∙ m.incumbent ∙ sym same;
          untold = λ worker. ap (λ (f : ℕ → Option ℕ). f worker) step.2.2 ∙ m.untold worker;
        };
      },
      λ lease most_broken out.
          let stays = kept (setup_in old) machine lease most_broken out.0 step.0 (ap (λ (f : ℕ → Option Grant). f lease.worker) step.3) step.2 in
          subst (λ (s : Setup). IsOutInTurns s step.0 most_broken lease) (sym step.1.setup) (stays.0, stays.1 out.1),
    )

-- a lease
pub leases_in_order : (old : GraphValue) (lease : LeaseValue) (new : GraphValue) → LeasesNext old lease new → new.incumbent ≡ old.incumbent
    → (recorded : (worker : ℕ) → Rows) (machine : Machine) → IsMoment old recorded machine
    → (next : Machine) × FollowsInOrder old machine (Lease lease.worker lease.block lease.quota ∷ []) new (with_entry recorded lease.worker (away_rows lease.parts)) next
    × (next.given lease.worker ≡ lease.incumbent) × IsOutInTurns (setup_in new) next 0 lease
leases_in_order old lease new leases same recorded machine m =
    let step = leases recorded machine m.at in (
      step.0,
      record {
        setup = step.1.setup;
        moves = step.6;
        moment = record {
          at = step.1.moment;
          incumbent = ap (λ (s : Store). s.incumbent) step.4 ∙ m.incumbent ∙ sym same;
          untold = λ worker. ap (λ (f : ℕ → Option ℕ). f worker) step.5 ∙ none_told machine.told lease.worker m.untold worker;
        };
      },
      step.2,
      step.3,
    )

module _ (old : GraphValue) (lease : LeaseValue) (new : GraphValue) (is : new.incumbent ≡ lesser old.incumbent lease.incumbent)
    (recorded : (worker : ℕ) → Rows) (machine : Machine) (m : IsMoment old recorded machine) where
  -- nobody told a cost
  shows : ShowsTold old machine lease
  shows cost told = absurd (true≢false (sym (ap is_some (sym (m.untold lease.worker) ∙ told))))

  brought : brought_incumbent machine lease ≡ new.incumbent
  brought = ap (λ o. lesser o lease.incumbent) m.incumbent ∙ sym is

  known : IsKnownThen machine lease new.incumbent
  known worker = subst (λ o. with_incumbent machine.known (brought_incumbent machine lease) worker o ≡ true) brought (known_new (machine.known worker) (brought_incumbent machine lease))

  -- a lease that comes back
  pub releases_in_order : (memory : Bool) → ReleasesNext old lease memory new → IsOutInTurns (setup_in old) machine (one_if memory) lease
      → (next : Machine) × FollowsInOrder old machine (Release lease.worker lease.used memory ∷ ending memory old.table.end) new recorded next
  releases_in_order memory releases out =
      let step = releases recorded machine m.at out.0 shows known in (
        step.0,
        record {
          setup = step.1.setup;
          moves = step.4 out.1;
          moment = record {
            at = step.1.moment;
            incumbent = step.2 ∙ brought;
            untold = λ worker. ap (λ (f : ℕ → Option ℕ). f worker) step.3 ∙ none_told machine.told lease.worker m.untold worker;
          };
        },
      )

  -- a lease that goes on
  pub renews_in_order : (kept : LeaseValue) → RenewsNext old lease kept new → IsOutInTurns (setup_in old) machine 0 lease
      → (next : Machine) × FollowsInOrder old machine (Renew lease.worker lease.used kept.quota ∷ []) new (with_entry recorded lease.worker (away_rows kept.parts)) next
      × (next.given kept.worker ≡ kept.incumbent) × IsOutInTurns (setup_in new) next 0 kept
  renews_in_order kept renews out =
      let step = renews recorded machine m.at out.0 shows known in (
        step.0,
        record {
          setup = step.1.setup;
          moves = step.6 out.1;
          moment = record {
            at = step.1.moment;
            incumbent = step.4 ∙ brought;
            untold = λ worker. ap (λ (f : ℕ → Option ℕ). f worker) step.5 ∙ none_told machine.told lease.worker m.untold worker;
          };
        },
        step.2,
        step.3,
      )
