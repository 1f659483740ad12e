use Rattle.pb_lifted.specs.Refusals.{in_predicate}
use Rattle.pb_lifted.proofs.Earliest.{kept}
use Rattle.pb_lifted.proofs.places.first_in_predicates.Goals as goal

pub loop-predicate-preserved : goal.loop-predicate-preserved
loop-predicate-preserved c =
    kept (λ p. in_predicate c.args.cause c.args.types.now p) c.args.predicates.now c.predicate-item.result c.loop-predicate.predicate-index c.loop-predicate.found c.first_in_predicate-found.result _
    c.loop-predicate-test.true c.predicate-item.is c.first_in_predicate-found.ensures c.loop-predicate.invariant
