use Rattle.std.proofs.Common.{◌≡◌, slice_index}
use Rattle.pb_tables.specs.Below.{greatest_below}
use Rattle.pb_tables.proofs.estimate.greatest.Given as goal

abbrev pub invariant-loop-sum : goal.invariant-loop-sum
invariant-loop-sum l = l.most ≡ greatest_below l.sum (slice_index l.totals)
