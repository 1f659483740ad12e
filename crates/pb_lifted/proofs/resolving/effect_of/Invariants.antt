use Rattle.std.proofs.Common.{◌≡◌, ◌++◌, drop}
use Rattle.pb_lifted.specs.Lifted.{effect_of}
use Rattle.pb_lifted.proofs.resolving.effect_of.Given as goal

abbrev pub invariant-loop-literal : goal.invariant-loop-literal
invariant-loop-literal l =
    l.list ++ effect_of l.negated l.predicates l.objects l.params (drop l.literal-index l.effect) ≡ effect_of l.negated l.predicates l.objects l.params l.effect
