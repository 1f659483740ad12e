use Rattle.std.proofs.Common.{◌≡◌, ◌≤◌, drop, length}
use Rattle.pb_packed.proofs.slices.compare.Given as goal

abbrev pub invariant-loop-above : goal.invariant-loop-above
invariant-loop-above l = record { within : l.above ≤ length l.words; same : drop l.above l.words ≡ drop l.above l.other }

abbrev pub decreases-loop-above : goal.decreases-loop-above
decreases-loop-above l = l.above
