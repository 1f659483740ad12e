use Rattle.std.proofs.Common.{◌≡◌, ◌++◌, take}
use Rattle.pb_pddl.specs.Reading.{typed}
use Rattle.pb_syntax.proofs.lists.give_type.Given as goal

abbrev pub invariant-loop-name : goal.invariant-loop-name
invariant-loop-name l = l.done ≡ l.fn.done ++ typed l.kind (take l.name-index l.names)
