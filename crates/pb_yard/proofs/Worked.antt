-- A lease that its worker expanded one row of, and that read no incumbent meanwhile, may come back.
use Rattle.std.proofs.Common.{◌≡◌, ℕ, ◌+◌, ◌<◌, true, Option, Some, None, IsSome, sym, ap, ◌∙◌, subst}
use Rattle.pb_model.specs.Store.{AtMost}
use Rattle.pb_machine.specs.Machine.{IsWorked}
use Rattle.pb_machine.specs.Turns.{AreLeaseTurns}
use Rattle.pb_task.specs.declared.parts.TaskParts.{TaskParts}
use Rattle.pb_task.specs.Parts.{space_of}
use Rattle.pb_abstract.specs.Graph.{AbstractGraph, blocks_of}
use Rattle.pb_bundles.specs.Parts.{content_in}
use Rattle.pb_estimate.specs.Choices.{Choice}
use Rattle.pb_lease.specs.LeaseValue.{LeaseValue, leased_store, HasWeights, IsSameLease}
use Rattle.pb_lease.specs.Leased.{guide_of, grant_of, HasScope}
use Rattle.pb_lease.specs.GraphValue.{GraphValue}
use Rattle.pb_lease.specs.Rows.{ChangesRows, LeadsInto}
use Rattle.pb_lease.proofs.Callers.{same_changed}
use Rattle.pb_yard.specs.declared.view.View.{View}
use Rattle.pb_yard.specs.Rule.{was_read, IsAt, IsViewOf}
use Rattle.pb_yard.specs.Returning.{IsBrought}
use Rattle.pb_yard.proofs.Meaning.{leased}

module _ (g : GraphValue) (view : View) (at : IsAt g view) (live : view.journal.is_live ≡ true) (lease : LeaseValue) (lent : view.lent ≡ Some lease) (task : TaskParts) (abstraction : AbstractGraph) (task_is : view.task ≡ task) (graph_is : view.abstraction ≡ abstraction) where
  of_view : IsViewOf g at.yard.machine at.yard.lent view
  of_view = at.yard.each at.seat view at.mine live

  lent_to : at.yard.lent view.journal.own.worker ≡ Some lease
  lent_to = of_view.lent ∙ lent

  unused : lease.used ≡ 0
  unused = (at.yard.lent_is view.journal.own.worker lease lent_to).unused

  scope : HasScope g.table.abstraction lease
  scope = (at.yard.lent_is view.journal.own.worker lease lent_to).of_graph.scope

  pub lent_weights : HasWeights lease
  lent_weights = scope.weights

  block_is_known : lease.block < (blocks_of g.table.abstraction).count
  block_is_known = (at.yard.moment.lawful.counts.known view.journal.own.worker (grant_of lease) (leased g at.shared at.views at.yard view.journal.own.worker lease lent_to)).1

  -- it has the bundle of its block
  pub own_there : IsSome (content_in lease.parts lease.block)
  own_there = scope.blocks lease.block ∙ at.yard.is_setup.blocks.own lease.block block_is_known

  -- the search goes by the lease's choice
  choice_is : view.choice ≡ lease.choice
  choice_is = of_view.search.choice ∙ sym (at.yard.lent_is view.journal.own.worker lease lent_to).of_graph.choice

  abbrev Leads : TaskParts → AbstractGraph → Choice → Type 0
  Leads t a h = (state : ℕ) → (guide_of t a h).home state ≡ lease.block → LeadsInto (space_of t) (guide_of t a h) state lease.parts

  leads : Leads g.task g.table.abstraction lease.choice
  leads state home action to cost step =
      scope.blocks ((guide_of g.task g.table.abstraction lease.choice).home to)
      ∙ ap (λ k. (blocks_of g.table.abstraction).scope k ((guide_of g.task g.table.abstraction lease.choice).home to)) (sym home) ∙ at.yard.is_setup.blocks.steps state action to cost step

  -- and those that steps from its block lead to
  pub leads_there : Leads task abstraction lease.choice
  leads_there = subst (λ (a : AbstractGraph). Leads task a lease.choice) (sym of_view.search.abstraction ∙ graph_is) (subst (λ (p : TaskParts). Leads p g.table.abstraction lease.choice) (sym of_view.search.task ∙ task_is) leads)

  -- after one expansion, by which no goal was found
  module _ (worked : LeaseValue) (changes : ChangesRows (record lease { used = lease.used + 1 }) worked) (untold : view.told ≡ None) (none : worked.incumbent ≡ None) where
    abbrev Worked : TaskParts → AbstractGraph → Choice → (used : ℕ) → Type 0
    Worked t a h used =
        (work : IsWorked (space_of t) (guide_of t a h) lease.block used 0 (was_read view) (leased_store lease) (leased_store worked))
        × AreLeaseTurns (space_of t) (guide_of t a h) work.works (leased_store lease)

    same : IsSameLease lease worked
    same = let s = same_changed (record lease { used = lease.used + 1 }) worked changes in record {
      worker = s.worker;
      block = s.block;
      quota = s.quota;
      weight = s.weight;
      choice = s.choice;
      fits = s.fits;
      places = s.places;
      incumbent = s.incumbent;
    }

    pub worked_brought : Worked task abstraction lease.choice 1 → IsBrought view 0 worked
    worked_brought work =
        let used : 1 ≡ worked.used = ap (λ n. n + 1) (sym unused) ∙ sym (ap (λ (l : LeaseValue). l.used) changes.others) in
        let w : Worked view.task view.abstraction view.choice worked.used =
        subst (λ n. Worked view.task view.abstraction view.choice n) used
        (subst (λ (p : TaskParts). Worked p view.abstraction view.choice 1) (sym task_is) (subst (λ (a : AbstractGraph). Worked task a view.choice 1) (sym graph_is) (subst (λ (h : Choice). Worked task abstraction h 1) (sym choice_is) work))) in
        record {
          lent = lease;
          lent_is = lent;
          same = same;
          weights = changes.weights lent_weights;
          work = w.0;
          turns = λ order. w.1;
          copy = subst (λ o. AtMost view.last o) (sym none) tt;
          told = λ cost told. let bad : ◌≡◌ {A = Option ℕ} None (Some cost) = sym untold ∙ told in absurd cc;
        }
