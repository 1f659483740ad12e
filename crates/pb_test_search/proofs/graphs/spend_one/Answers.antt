use Rattle.std.proofs.Common.{refl, sym, subst, ◌∙◌}
use Rattle.pb_lease.specs.LeaseValue.{LeaseValue}
use Rattle.pb_lease.specs.GraphValue.{IsOfGraph}
use Rattle.pb_test_search.proofs.graphs.spend_one.Goals as goal
use Rattle.pb_test_search.proofs.graphs.spend_one.Goals.{then-used-quota, else-used-quota}

pub renew-requires : goal.renew-requires
renew-requires c = elim c.if-used-quota.branch [
  | then-used-quota w ↦ subst (λ (l : LeaseValue). IsOfGraph c.args.graph.now l) (sym (w.lease-is ∙ w.spend.ensures)) (record {
    leased = c.requires.leased;
    weight = c.requires.weight;
    choice = c.requires.choice;
    scope = record { blocks = c.requires.scope.blocks; weights = c.requires.scope.weights };
    fits = c.requires.fits;
  })
  | else-used-quota w ↦ subst (λ (l : LeaseValue). IsOfGraph c.args.graph.now l) (sym w.lease-is) c.requires
]

pub release-requires : goal.release-requires
release-requires c = (c.in-Kept.ensures.kept c.in-Kept.lease refl).1.of_graph
