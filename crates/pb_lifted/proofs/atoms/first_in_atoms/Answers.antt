use Rattle.pb_lifted.specs.Refusals.{in_atom}
use Rattle.pb_lifted.proofs.Earliest.{kept}
use Rattle.pb_lifted.proofs.atoms.first_in_atoms.Goals as goal

pub loop-atom-preserved : goal.loop-atom-preserved
loop-atom-preserved c =
    kept (λ a. in_atom c.args.cause c.args.scope.now.domain.now c.args.scope.now.problem.now c.args.scope.now.params.now a) c.args.atoms.now c.atom-item.result c.loop-atom.atom-index
    c.loop-atom.found c.first_in_atom-found.result _ c.loop-atom-test.true c.atom-item.is c.first_in_atom-found.ensures c.loop-atom.invariant
