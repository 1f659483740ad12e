use Rattle.std.proofs.Common.{◌≡◌, ℕ, ◌+◌, ◌<◌, ◌≤◌, slice_index}
use Rattle.pb_tables.proofs.paid.add_drops.Given as goal

abbrev pub invariant-loop-sum : goal.invariant-loop-sum
invariant-loop-sum l = record {
  done : (k : ℕ) → k < l.sum → slice_index l.totals k ≡ slice_index l.initial.totals k + slice_index l.drops k;
  rest : (k : ℕ) → l.sum ≤ k → slice_index l.totals k ≡ slice_index l.initial.totals k;
}
