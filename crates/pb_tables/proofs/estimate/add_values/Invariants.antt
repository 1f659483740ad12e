use Rattle.std.proofs.Common.{◌≡◌, ℕ, ◌+◌, ◌<◌, ◌≤◌, slice_index}
use Rattle.pb_tables.specs.Tables.{value_at}
use Rattle.pb_tables.proofs.estimate.add_values.Given as goal

abbrev pub invariant-loop-sum : goal.invariant-loop-sum
invariant-loop-sum l = record {
  done : (k : ℕ) → k < l.sum → slice_index l.totals k ≡ slice_index l.initial.totals k + value_at l.sums l.values k l.place;
  rest : (k : ℕ) → l.sum ≤ k → slice_index l.totals k ≡ slice_index l.initial.totals k;
}
