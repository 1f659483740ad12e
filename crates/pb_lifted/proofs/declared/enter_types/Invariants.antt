use Rattle.std.proofs.Common.{◌≡◌, map, drop}
use Rattle.pb_lifted.specs.Names.{repeated, earliest}
use Rattle.pb_lifted.specs.Types.{declared_types}
use Rattle.pb_lifted.specs.Refusals.{typed_name}
use Rattle.pb_lifted.proofs.declared.enter_types.Given as goal

abbrev pub invariant-loop-typed : goal.invariant-loop-typed
invariant-loop-typed l =
    earliest l.found (repeated l.names (map typed_name (declared_types (drop l.typed-index l.types)))) ≡ earliest l.fn.first (repeated l.fn.names (map typed_name (declared_types l.types)))
