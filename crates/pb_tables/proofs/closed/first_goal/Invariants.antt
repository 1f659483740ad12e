use Rattle.std.proofs.Common.{◌≡◌, ◌<◌, ℕ, false, slice_index}
use Rattle.pb_tables.specs.Images.{has_goal}
use Rattle.pb_tables.proofs.closed.first_goal.Given as goal

abbrev pub invariant-loop-place : goal.invariant-loop-place
invariant-loop-place l = (other : ℕ) → other < l.place → has_goal l.strips l.trap.tracked (slice_index l.trap.listed other) ≡ false
