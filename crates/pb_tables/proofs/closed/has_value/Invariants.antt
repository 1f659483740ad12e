use Rattle.std.proofs.Common.{◌≡◌, ◌==◌, not, false}
use Rattle.pb_tables.specs.Below.{any_below}
use Rattle.pb_tables.specs.Tables.{value_at}
use Rattle.pb_tables.proofs.closed.has_value.Given as goal

abbrev pub invariant-loop-sum : goal.invariant-loop-sum
invariant-loop-sum l = any_below l.sum (λ sum. not (value_at l.sums l.values sum l.place == 0)) ≡ false
