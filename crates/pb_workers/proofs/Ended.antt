-- What a search has when it ended.
use Rattle.std.proofs.Common.{◌≡◌, ℕ, false, Some, ap, ◌∙◌, subst}
use Rattle.pb_model.specs.Store.{Rows, Store}
use Rattle.pb_model.specs.Work.{Comes, opening_store}
use Rattle.pb_model.specs.Store.{IsQuiet, IsShown, HasOpened}
use Rattle.pb_model.specs.Sound.{IsSound}
use Rattle.pb_model.specs.Plan.{IncumbentHolds}
use Rattle.pb_task.specs.Parts.{space_of, greatest_cost}
use Rattle.pb_estimate.proofs.Callers.{estimates_are_admissible}
use Rattle.pb_machine.specs.declared.event.End.TheVariants.{Quiet, Budget}
use Rattle.pb_machine.specs.Counts.{Counts, is_any_out}
use Rattle.pb_machine.specs.Settings.{weight_of}
use Rattle.pb_machine.specs.Machine.{Machine}
use Rattle.pb_machine.proofs.Callers.{lawful_stores_are_sound, quiet_ends_are_best, budget_ends_are_spent, none_out_is_shown}
use Rattle.pb_lease.specs.Leased.{guide_of}
use Rattle.pb_lease.specs.GraphValue.{GraphValue, setup_in, IsLeaseGraph}
use Rattle.pb_lease.specs.Choices.{is_out_in}
use Rattle.pb_lease.specs.Moments.{IsMoment}
use Rattle.pb_lease.proofs.Callers.{setup_is, all_rows}
use Rattle.pb_workers.specs.Ends.{home_store, IsBestEnd, IsSpentEnd}

module _ (g : GraphValue) (k : IsLeaseGraph g) (home : is_out_in g ≡ false) (recorded : (worker : ℕ) → Rows) (machine : Machine) (m : IsMoment g recorded machine) where
  pub store_is : machine.store ≡ home_store g
  store_is = λ i. record {
    rows = λ block state. all_rows g k recorded machine m.at home block state i;
    incumbent = m.incumbent i;
    weight = m.at.lawful.weight i;
  }

  out : is_any_out g.table.settings.workers machine.counts.leases ≡ false
  out = ap (λ (c : Counts). is_any_out g.table.settings.workers c.leases) m.at.counts ∙ home

  pub best_end : g.table.end ≡ Some Quiet → IsBestEnd g
  best_end quiet =
      let end = ap (λ (c : Counts). c.end) m.at.counts ∙ quiet in
      record {
        sound = subst (λ (s : Store). IsSound (space_of g.task) (guide_of g.task g.table.abstraction g.choice) s) store_is (lawful_stores_are_sound (setup_in g) greatest_cost machine (setup_is g k) m.at.lawful);
        quiet = subst (λ (s : Store). IsQuiet s) store_is (m.at.lawful.quiet end);
        shown = subst (λ (s : Store). IsShown (space_of g.task) (guide_of g.task g.table.abstraction g.choice) s) store_is (none_out_is_shown (setup_in g) greatest_cost machine (setup_is g k) m.at.lawful out);
        holds = subst (λ o. IncumbentHolds (space_of g.task) (weight_of g.table.settings) o) m.incumbent
            (quiet_ends_are_best (setup_in g) greatest_cost machine (setup_is g k) m.at.lawful end (estimates_are_admissible g.task g.choice k.is_task k.suits));
      }

  pub spent_end : g.table.end ≡ Some Budget → IsSpentEnd g
  spent_end budget =
      let all = budget_ends_are_spent (setup_in g) greatest_cost machine (setup_is g k) m.at.lawful (ap (λ (c : Counts). c.end) m.at.counts ∙ budget) in
      record {
        first_weight = all.0;
        is_weight = all.2;
        works = all.1;
        comes = subst (λ (s : Store). Comes (space_of g.task) (guide_of g.task g.table.abstraction g.choice) all.1 (opening_store (space_of g.task) (guide_of g.task g.table.abstraction g.choice) all.0) s) store_is all.3;
        all = all.4;
        none_broken = all.5;
        reopened = all.6;
        between = all.7;
        first_run = all.8;
        opened = (all.9.0, subst (λ (s : Store). HasOpened (s.rows all.9.0)) store_is all.9.1);
      }
