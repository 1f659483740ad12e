use Rattle.std.proofs.Common.{◌≡◌, take}
use Rattle.pb_lifted.specs.Lifted.{schemas_of}
use Rattle.pb_lifted.proofs.resolving.schemas_of.Given as goal

abbrev pub invariant-loop-i : goal.invariant-loop-i
invariant-loop-i l = l.list ≡ schemas_of l.problem l.tables.types.names l.tables.predicates l.tables.objects (take l.i l.actions)
