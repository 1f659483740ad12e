use Rattle.std.proofs.Common.{◌≡◌, drop}
use Rattle.pb_lifted.specs.Names.{earliest}
use Rattle.pb_lifted.specs.Refusals.{wrong_types}
use Rattle.pb_lifted.proofs.atoms.first_wrong_type.Given as goal

abbrev pub invariant-loop-i : goal.invariant-loop-i
invariant-loop-i l =
    let places = wrong_types l.scope.domain.now l.scope.problem.now l.scope.params.now in
    earliest l.found (places (drop l.i l.terms) (drop l.i l.wanted)) ≡ earliest l.fn.first (places l.terms l.wanted)
