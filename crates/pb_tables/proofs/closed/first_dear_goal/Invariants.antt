use Rattle.std.proofs.Common.{◌≡◌, ◌<◌, ℕ, false}
use Rattle.pb_tables.specs.Suits.{is_dear_goal}
use Rattle.pb_tables.proofs.closed.first_dear_goal.Given as goal

abbrev pub invariant-loop-place : goal.invariant-loop-place
invariant-loop-place l = (other : ℕ) → other < l.place → is_dear_goal l.strips l.sums l.table other ≡ false
