use Rattle.std.proofs.Common.{◌<◌, is_some, refl, sym, ap, ◌∙◌, subst, [], ◌∷◌, arith}
use Rattle.pb_model.proofs.Callers.{by_cases}
use Rattle.pb_machine.specs.declared.event.Event.TheVariants.{Hot, Cold}
use Rattle.pb_abstract.specs.Graph.{AbstractGraph, blocks_of}
use Rattle.pb_lease.specs.GraphValue.{GraphValue, counts_in, IsOfGraph}
use Rattle.pb_lease.proofs.Callers.{stays_of_graph}
use Rattle.pb_test_search.proofs.graphs.mark_one.Goals as goal

pub mark_hot-requires-clause-leased : goal.mark_hot-requires-clause-leased
mark_hot-requires-clause-leased c = ap (λ w. is_some ((counts_in c.args.graph.now).leases w)) c.worker-worker.ensures ∙ ap is_some c.requires.leased

pub mark_hot-requires-clause-block : goal.mark_hot-requires-clause-block
mark_hot-requires-clause-block c = subst (λ (a : AbstractGraph). c.args.block < (blocks_of a).count) c.abstraction.ensures.abstraction (omega (arith, c.count.ensures.count))

pub cool-requires-clause-leased : goal.cool-requires-clause-leased
cool-requires-clause-leased c = ap (λ w. is_some ((counts_in c.args.graph.now).leases w)) c.worker-worker.ensures ∙ ap is_some c.requires.leased

pub cool-requires-clause-block : goal.cool-requires-clause-block
cool-requires-clause-block c = subst (λ (a : AbstractGraph). c.args.block < (blocks_of a).count) c.abstraction.ensures.abstraction (omega (arith, c.count.ensures.count))

pub returns-then-hot : goal.returns-then-hot
returns-then-hot c = by_cases c.mark_hot.result
    (λ e. stays_of_graph c.args.graph.now c.mark_hot.new.self (Hot c.worker-worker.result c.args.block ∷ []) (c.mark_hot.ensures.marked e).events (ap (λ (g : GraphValue). g.choice) (c.mark_hot.ensures.marked e).rest) c.args.lease.now refl c.requires)
    (λ e. subst (λ (g : GraphValue). IsOfGraph g c.args.lease.now) (sym (c.mark_hot.ensures.refused e)) c.requires)

pub returns-else-hot : goal.returns-else-hot
returns-else-hot c = by_cases c.cool.result
    (λ e. stays_of_graph c.args.graph.now c.cool.new.self (Cold c.worker-worker.result c.args.block ∷ []) (c.cool.ensures.cooled e).events (ap (λ (g : GraphValue). g.choice) (c.cool.ensures.cooled e).rest) c.args.lease.now refl c.requires)
    (λ e. subst (λ (g : GraphValue). IsOfGraph g c.args.lease.now) (sym (c.cool.ensures.refused e)) c.requires)
