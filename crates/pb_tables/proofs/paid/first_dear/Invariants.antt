use Rattle.std.proofs.Common.{◌≡◌, ℕ, ◌<◌, nat_le, not, false, slice_index}
use Rattle.pb_tables.proofs.paid.first_dear.Given as goal

abbrev pub invariant-loop-sum : goal.invariant-loop-sum
invariant-loop-sum l = (other : ℕ) → other < l.sum → not (nat_le (slice_index l.totals other) l.cost) ≡ false
