use Rattle.std.proofs.Common.{All}
use Rattle.pb_finder.specs.Sizes.{TrapListsFew}
use Rattle.pb_finder.proofs.fitted.traps_of.Given as goal

abbrev pub invariant-loop-number : goal.invariant-loop-number
invariant-loop-number l = All TrapListsFew l.traps.items
