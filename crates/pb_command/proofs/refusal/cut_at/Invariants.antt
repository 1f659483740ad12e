use Rattle.std.proofs.Common.{◌≤◌}
use Rattle.pb_command.proofs.refusal.cut_at.Given as goal

abbrev pub invariant-loop-end : goal.invariant-loop-end
invariant-loop-end l = l.end ≤ l.most

-- proposed from the loop's first test
abbrev pub decreases-loop-end : goal.decreases-loop-end
decreases-loop-end l = l.end
