use Rattle.pb_lifted.specs.Refusals.{in_atom}
use Rattle.pb_lifted.proofs.Earliest.{kept}
use Rattle.pb_lifted.proofs.atoms.first_in_effect.Goals as goal

pub loop-literal-preserved : goal.loop-literal-preserved
loop-literal-preserved c =
    kept (λ l. in_atom c.args.cause c.args.scope.now.domain.now c.args.scope.now.problem.now c.args.scope.now.params.now l.atom) c.args.literals.now c.literal-item.result
    c.loop-literal.literal-index c.loop-literal.found c.first_in_atom-found.result _ c.loop-literal-test.true c.literal-item.is c.first_in_atom-found.ensures c.loop-literal.invariant
