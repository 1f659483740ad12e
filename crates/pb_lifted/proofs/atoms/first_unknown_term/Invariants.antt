use Rattle.std.proofs.Common.{◌≡◌, drop}
use Rattle.pb_lifted.specs.Names.{earliest}
use Rattle.pb_lifted.specs.Refusals.{unknown_terms}
use Rattle.pb_lifted.proofs.atoms.first_unknown_term.Given as goal

abbrev pub invariant-loop-term : goal.invariant-loop-term
invariant-loop-term l =
    let places = unknown_terms l.scope.domain.now l.scope.problem.now l.scope.params.now in
    earliest l.found (places (drop l.term-index l.terms)) ≡ earliest l.fn.first (places l.terms)
