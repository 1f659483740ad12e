use Rattle.std.proofs.Common.{◌≡◌, take}
use Rattle.pb_lifted.specs.Tree.{parent_numbers}
use Rattle.pb_lifted.proofs.tree.parents_of.Given as goal

abbrev pub invariant-loop-typed : goal.invariant-loop-typed
invariant-loop-typed l = l.parents.items ≡ parent_numbers l.names (take l.typed-index l.types)
