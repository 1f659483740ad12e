use Rattle.std.proofs.Common.{◌≡◌, take}
use Rattle.pb_lifted.specs.Lifted.{arguments_of}
use Rattle.pb_lifted.proofs.resolving.arguments_of.Given as goal

abbrev pub invariant-loop-term : goal.invariant-loop-term
invariant-loop-term l = l.list ≡ arguments_of l.objects l.params (take l.term-index l.terms)
