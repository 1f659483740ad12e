use Rattle.std.proofs.Common.{◌≡◌, None, drop}
use Rattle.pb_lifted.specs.Names.{earliest}
use Rattle.pb_lifted.specs.Types.{cyclic_in, cyclic_types}
use Rattle.pb_lifted.proofs.tree.first_cycle.Given as goal

abbrev pub invariant-loop-typed : goal.invariant-loop-typed
invariant-loop-typed l = earliest l.found (cyclic_in l.types (drop l.typed-index l.types)) ≡ earliest None (cyclic_types l.types)
