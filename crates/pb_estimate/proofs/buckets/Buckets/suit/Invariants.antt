use Rattle.std.proofs.Common.{ℕ, ◌<◌}
use Rattle.pb_estimate.specs.Relaxed.{relaxed_at}
use Rattle.pb_estimate.proofs.buckets.Buckets.suit.Given as goal

abbrev pub invariant-loop-action : goal.invariant-loop-action
invariant-loop-action l = record {
  all : (k : ℕ) → k < l.action → (relaxed_at l.task.actions k).cost < 64;
}
