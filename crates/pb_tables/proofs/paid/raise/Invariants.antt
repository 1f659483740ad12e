use Rattle.std.proofs.Common.{◌≡◌, ℕ, ◌-◌, ◌<◌, ◌≤◌, max, slice_index}
use Rattle.pb_tables.specs.Tables.{value_at, value_in}
use Rattle.pb_tables.proofs.paid.raise.Given as goal

abbrev pub invariant-loop-sum : goal.invariant-loop-sum
invariant-loop-sum l = record {
  done : (k : ℕ) → k < l.sum → slice_index l.drops k ≡ max (slice_index l.initial.drops k) (value_at l.sums l.values k l.from - value_in l.sums l.values k l.to);
  rest : (k : ℕ) → l.sum ≤ k → slice_index l.drops k ≡ slice_index l.initial.drops k;
}
