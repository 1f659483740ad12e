use Rattle.std.proofs.Common.{ℕ, Some, sym, ap, ◌∙◌, subst}
use Rattle.pb_task.specs.declared.parts.TaskParts.{TaskParts}
use Rattle.pb_abstract.specs.Graph.{AbstractGraph, IsGraphOf}
use Rattle.pb_lease.specs.Leased.{HasScope, FitsScopes}
use Rattle.pb_lease.specs.GraphValue.{counts_in}
use Rattle.pb_expand.specs.Turned.{IsAtWork}
use Rattle.pb_test_search.proofs.graphs.work_with.Goals as goal

pub work-worked-requires-clause-of_task : goal.work-worked-requires-clause-of_task
work-worked-requires-clause-of_task c =
    let a = c.abstraction-blocks in
    subst (λ (t : TaskParts). IsGraphOf t a.result.now) c.requires.task
    (subst (λ (g : AbstractGraph). IsGraphOf c.args.graph.now.task g) (sym a.ensures.abstraction) a.ensures.lawful.graph_of)

pub work-worked-requires-clause-at_work : goal.work-worked-requires-clause-at_work
work-worked-requires-clause-at_work c =
    let a = c.abstraction-blocks in
    subst (λ (t : TaskParts). IsAtWork t a.result.now c.args.lease.now.choice c.args.lease.now) c.requires.task
    (subst (λ (g : AbstractGraph). IsAtWork c.args.graph.now.task g c.args.lease.now.choice c.args.lease.now) (sym a.ensures.abstraction) c.requires.at_work)

pub returns : goal.returns
returns c =
    let a = c.abstraction-blocks in
    let of = c.requires.of_graph in
    let same = c.work-worked.ensures.same in
    record {
      leased = ap (counts_in c.args.graph.now).leases same.worker ∙ of.leased ∙ (λ i. Some (record { block = sym same.block i; quota = sym same.quota i }));
      weight = same.weight ∙ of.weight;
      choice = same.choice ∙ of.choice;
      scope = subst (λ (g : AbstractGraph). HasScope g c.work-worked.new.lease) a.ensures.abstraction c.work-worked.ensures.scope;
      fits = subst (λ (n : ℕ). FitsScopes c.args.graph.now.table.abstraction n) (sym same.fits) of.fits;
    }
