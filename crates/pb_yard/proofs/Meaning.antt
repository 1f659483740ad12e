-- What the rule of a yard means.
use Rattle.std.proofs.Common.{◌≡◌, ◌≤◌, ℕ, true, IsTrue, List, Option, Some, None, sym, ap, ◌∙◌, subst, arith}
use mathlib.Core.Option.{some}
use lib.ListN.{get_elem?}
use Rattle.pb_model.specs.Plan.{Plan, IsPlan}
use Rattle.pb_model.specs.Store.{AtMost}
use Rattle.pb_task.specs.declared.parts.TaskParts.{TaskParts}
use Rattle.pb_task.specs.Parts.{greatest_cost, space_of}
use Rattle.pb_machine.specs.declared.event.Event.{Event}
use Rattle.pb_machine.specs.Counts.{Counts, opening_counts}
use Rattle.pb_machine.specs.History.{IsHistory}
use Rattle.pb_machine.specs.declared.settings.Settings.{Settings}
use Rattle.pb_machine.specs.Machine.{Runs, lent_store}
use Rattle.pb_machine.proofs.Callers.{incumbents_are_plans, journals_are_histories, scopes_are_apart, recorded_rows_are_lent}
use Rattle.pb_bundles.specs.Homes.{home_rows}
use Rattle.pb_lease.specs.declared.past.Past.{Past}
use Rattle.pb_lease.specs.Tables.{blocks}
use Rattle.pb_lease.specs.LeaseValue.{LeaseValue, leased_store}
use Rattle.pb_lease.specs.Leased.{grant_of}
use Rattle.pb_lease.specs.GraphValue.{GraphValue, setup_in, counts_in}
use Rattle.pb_machine.specs.Room.{no_room}
use Rattle.pb_lease.specs.Begins.{begin_machine}
use Rattle.pb_yard.specs.declared.view.View.{View}
use Rattle.pb_yard.specs.Rule.{rows_of, grant_in, IsYard}
use Rattle.pb_yard.specs.Calls.{HasPlanWithin}
use Rattle.pb_yard.specs.Laws.{YardsAreLawful, LentLeasesAreOut, ViewsBeginTheHistory}
use Rattle.pb_yard.proofs.Parts.{at_journal}
use Rattle.pb_yard.proofs.InTime.{settled_is_run}

module _ (g : GraphValue) (shared : Option ℕ) (views : List View) (yard : IsYard g shared views) where
  pub runs : Runs (setup_in g) (begin_machine yard.begin) yard.moves yard.machine
  runs = settled_is_run (setup_in g) yard.keeps no_room yard.moves (begin_machine yard.begin) yard.begin.incumbent yard.machine yard.settled yard.run

  -- what any worker can have read is at least the shared number
  pub known_above : (worker : ℕ) (incumbent : Option ℕ) → IsTrue (yard.machine.known worker incumbent) → AtMost shared incumbent
  known_above worker incumbent known = subst (λ o. AtMost o incumbent) yard.shared_is (yard.moment.lawful.least worker incumbent known)

  -- where the shared number is a cost, some plan costs at most that
  pub shared_is_plan : (seat : ℕ) (view : View) → get_elem? views seat ≡ some view → view.journal.is_live ≡ true → (cost : ℕ) → shared ≡ Some cost → HasPlanWithin view cost
  shared_is_plan seat view at live cost is = subst (λ (t : TaskParts). (plan : Plan) × IsPlan (space_of t) plan × (plan.cost ≤ cost)) (sym (yard.each seat view at live).search.task)
      (incumbents_are_plans (setup_in g) greatest_cost yard.machine yard.is_setup yard.moment.lawful cost (yard.shared_is ∙ is))

  -- the run begins with nothing but what earlier runs spent
  begin_counts : (begin_machine yard.begin).counts ≡ opening_counts g.table.settings g.table.past.spent
  begin_counts = λ i. opening_counts (sym yard.of_run.settings i) (sym yard.of_run.past i).spent

  enough : g.table.past.spent ≤ g.table.settings.budget
  enough =
      let sum = (yard.begins.moment (λ worker home state. None)).at.lawful.counts.sum in
      let budget = ap (λ (s : Settings). s.budget) yard.of_run.settings in
      let spent = ap (λ (p : Past). p.spent) yard.of_run.past in
      omega (arith, sum, budget, spent)

  pub history : IsHistory (blocks g.table) g.table.settings g.table.past.spent g.table.journal (counts_in g)
  history = subst (λ (c : Counts). IsHistory (blocks g.table) g.table.settings g.table.past.spent g.table.journal c) yard.moment.counts
      (subst (λ (j : List Event). IsHistory (blocks g.table) g.table.settings g.table.past.spent j yard.machine.counts) yard.journal
      (journals_are_histories (setup_in g) yard.moves (begin_machine yard.begin) yard.machine g.table.past.spent yard.in_range enough begin_counts runs))

  module _ (worker : ℕ) (lease : LeaseValue) (is : yard.lent worker ≡ Some lease) where
    pub leased : yard.machine.counts.leases worker ≡ Some (grant_of lease)
    leased = yard.leases worker ∙ ap grant_in is

    pub begins : leased_store lease ≡ lent_store (setup_in g) lease.block yard.machine.store (yard.machine.given worker)
    begins = let it = yard.lent_is worker lease is in λ i. record {
      rows = λ home state. sym (recorded_rows_are_lent (setup_in g) yard.machine.counts yard.machine.store (home_rows g.homes) (λ w. rows_of (yard.lent w)) worker (grant_of lease) (yard.machine.given worker) yard.moment.whole leased home state
          ∙ (λ j. rows_of (is j) home state)) i;
      incumbent = sym it.given i;
      weight = (it.of_graph.weight ∙ sym yard.moment.lawful.weight) i;
    }

pub yards_are_lawful : YardsAreLawful
yards_are_lawful g shared views yard = (
  yard.moment.lawful,
  history g shared views yard,
  λ worker other lease second is there differ. scopes_are_apart (setup_in g) greatest_cost yard.machine yard.is_setup yard.moment.lawful worker other (grant_of lease) (grant_of second)
      (leased g shared views yard worker lease is) (leased g shared views yard other second there) differ,
  λ block other hot too. yard.moment.lawful.counts.hot_are_apart block other (ap (λ (c : Counts). c.hot block) yard.moment.counts ∙ hot) (ap (λ (c : Counts). c.hot other) yard.moment.counts ∙ too),
)

pub lent_leases_are_out : LentLeasesAreOut
lent_leases_are_out g shared views yard worker lease is = (leased g shared views yard worker lease is, begins g shared views yard worker lease is)

pub views_begin_the_history : ViewsBeginTheHistory
views_begin_the_history g view at live =
    let h = at.yard.journals.each at.seat view.journal (at_journal g.table.settings.workers g.table.journal at.views at.yard.journals at.seat view at.mine) live in
    (h.seen, h.shares.0.0)
