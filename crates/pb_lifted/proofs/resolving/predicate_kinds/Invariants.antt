use Rattle.std.proofs.Common.{◌≡◌, take}
use Rattle.pb_lifted.specs.Lifted.{predicate_kinds}
use Rattle.pb_lifted.proofs.resolving.predicate_kinds.Given as goal

abbrev pub invariant-loop-predicate : goal.invariant-loop-predicate
invariant-loop-predicate l = l.list ≡ predicate_kinds l.types (take l.predicate-index l.predicates)
