use Rattle.std.proofs.Common.{◌≡◌, length}
use Rattle.pb_estimate.proofs.action_index.uses_of.Given as goal

abbrev pub invariant-loop-action : goal.invariant-loop-action
invariant-loop-action l = length l.uses.items ≡ l.strips.atoms
