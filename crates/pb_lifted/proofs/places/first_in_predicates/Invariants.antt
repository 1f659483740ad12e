use Rattle.std.proofs.Common.{◌≡◌, drop}
use Rattle.pb_lifted.specs.Names.{earliest}
use Rattle.pb_lifted.specs.Refusals.{in_predicates}
use Rattle.pb_lifted.proofs.places.first_in_predicates.Given as goal

abbrev pub invariant-loop-predicate : goal.invariant-loop-predicate
invariant-loop-predicate l = earliest l.found (in_predicates l.cause l.types (drop l.predicate-index l.predicates)) ≡ earliest l.fn.first (in_predicates l.cause l.types l.predicates)
