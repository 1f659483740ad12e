use Rattle.std.proofs.Common.{◌≡◌, ◌++◌, drop}
use Rattle.pb_lifted.specs.Lifted.{kind_numbers}
use Rattle.pb_lifted.proofs.resolving.add_kinds.Given as goal

abbrev pub invariant-loop-typed : goal.invariant-loop-typed
invariant-loop-typed l = l.out ++ kind_numbers l.types (drop l.typed-index l.list) ≡ l.fn.out ++ kind_numbers l.types l.list
