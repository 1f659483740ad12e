use Rattle.std.proofs.Common.{◌≡◌, drop}
use Rattle.pb_lifted.specs.Names.{earliest}
use Rattle.pb_lifted.specs.Refusals.{in_effect}
use Rattle.pb_lifted.proofs.atoms.first_in_effect.Given as goal

abbrev pub invariant-loop-literal : goal.invariant-loop-literal
invariant-loop-literal l =
    let places = in_effect l.cause l.scope.domain.now l.scope.problem.now l.scope.params.now in
    earliest l.found (places (drop l.literal-index l.literals)) ≡ earliest l.fn.first (places l.literals)
