use Rattle.std.proofs.Common.{sym, subst}
use Rattle.pb_lease.specs.GraphValue.{GraphValue}
use Rattle.pb_lease.specs.Steps.{LowersIncumbent}
use Rattle.pb_lease.proofs.MomentsStay.{bounded_kept, bound_taken}
use Rattle.pb_lease.specs.contracts.graph.LeaseGraph.{the_view}
use Rattle.pb_lease.proofs.graph.LeaseGraph.lower_incumbent.Goals as goal

pub invariant_of-self : goal.invariant_of-self
invariant_of-self c = record { lawful = bounded_kept (the_view c.self.inside) c.self.invariant.lawful c.least-self-inside.result; shows = c.self.invariant.shows; greatest_is = c.self.invariant.greatest_is }

pub returns-clause-moment : goal.returns-clause-moment
returns-clause-moment c =
    let t : GraphValue = the_view c.self.inside in
    let new : GraphValue = record t { incumbent = c.least-self-inside.result } in
    subst (λ (v : GraphValue). LowersIncumbent v c.args.cost new) c.self.view_is
    (subst (λ u. LowersIncumbent t c.args.cost (record t { incumbent = u })) (sym c.least-self-inside.ensures) (bound_taken t c.args.cost))
