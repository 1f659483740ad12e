use Rattle.std.proofs.Common.{◌≡◌, ◌<◌, ℕ, false, slice_index}
use Rattle.pb_tables.specs.Estimate.{is_unlisted, sum_of}
use Rattle.pb_tables.proofs.estimate.greatest_sum.Given as goal

abbrev pub invariant-loop-number : goal.invariant-loop-number
invariant-loop-number l = record {
  listed : is_unlisted l.count l.tables l.number l.state ≡ false;
  totals : (sum : ℕ) → sum < l.sums → slice_index l.totals sum ≡ sum_of l.count l.sums l.tables l.number l.state sum;
}
