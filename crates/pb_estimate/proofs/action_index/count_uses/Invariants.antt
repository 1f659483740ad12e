use Rattle.std.proofs.Common.{◌-◌, ◌≤◌}
use Rattle.pb_estimate.proofs.action_index.count_uses.Given as goal

abbrev pub invariant-loop-atom : goal.invariant-loop-atom
invariant-loop-atom l = l.atom ≤ l.count

abbrev pub decreases-loop-atom : goal.decreases-loop-atom
decreases-loop-atom l = l.count - l.atom
