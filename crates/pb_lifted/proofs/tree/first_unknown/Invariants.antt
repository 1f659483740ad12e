use Rattle.std.proofs.Common.{◌≡◌, drop}
use Rattle.pb_lifted.specs.Names.{earliest}
use Rattle.pb_lifted.specs.Types.{unknown_kinds}
use Rattle.pb_lifted.proofs.tree.first_unknown.Given as goal

abbrev pub invariant-loop-typed : goal.invariant-loop-typed
invariant-loop-typed l = earliest l.found (unknown_kinds l.types (drop l.typed-index l.list)) ≡ earliest l.fn.first (unknown_kinds l.types l.list)
