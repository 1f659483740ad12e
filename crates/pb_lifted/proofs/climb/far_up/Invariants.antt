use Rattle.std.proofs.Common.{◌≡◌, ◌<◌, ℕ, get_or, length}
use Rattle.pb_lifted.specs.Tree.{climb}
use Rattle.pb_lifted.proofs.climb.far_up.Given as goal

-- the steps that are done and those that are left make the whole way
abbrev pub invariant-loop-left : goal.invariant-loop-left
invariant-loop-left l = record {
  far : length l.far.items ≡ length l.parents;
  step : length l.step.items ≡ length l.parents;
  root : get_or l.step.items 0 0 ≡ 0;
  each : (i : ℕ) → i < length l.far.items → climb l.step.items l.left (get_or l.far.items i 0) ≡ climb l.parents (length l.parents) i;
}

abbrev pub decreases-loop-left : goal.decreases-loop-left
decreases-loop-left l = l.left
