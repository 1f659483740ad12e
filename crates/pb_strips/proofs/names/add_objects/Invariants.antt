use Rattle.std.proofs.Common.{◌≡◌, ◌++◌, drop}
use Rattle.pb_lifted.specs.Typing.{named}
use Rattle.pb_strips.specs.Names.{spaced}
use Rattle.pb_strips.proofs.names.add_objects.Given as goal

abbrev pub invariant-loop-object : goal.invariant-loop-object
invariant-loop-object l =
    l.bytes.items ++ spaced (named l.domain l.problem (drop l.object-index l.objects)) ≡ l.fn.bytes.items ++ spaced (named l.domain l.problem l.objects)
