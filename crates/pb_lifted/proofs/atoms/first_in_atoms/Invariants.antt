use Rattle.std.proofs.Common.{◌≡◌, drop}
use Rattle.pb_lifted.specs.Names.{earliest}
use Rattle.pb_lifted.specs.Refusals.{in_atoms}
use Rattle.pb_lifted.proofs.atoms.first_in_atoms.Given as goal

abbrev pub invariant-loop-atom : goal.invariant-loop-atom
invariant-loop-atom l =
    let places = in_atoms l.cause l.scope.domain.now l.scope.problem.now l.scope.params.now in
    earliest l.found (places (drop l.atom-index l.atoms)) ≡ earliest l.fn.first (places l.atoms)
