use Rattle.std.proofs.Common.{◌≡◌, ◌++◌, drop}
use Rattle.pb_lifted.specs.Types.{kinds_of}
use Rattle.pb_lifted.proofs.declared.enter_kinds.Given as goal

abbrev pub invariant-loop-typed : goal.invariant-loop-typed
invariant-loop-typed l = l.names ++ kinds_of (drop l.typed-index l.types) ≡ l.fn.names ++ kinds_of l.types
