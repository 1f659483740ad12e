use Rattle.std.proofs.Common.{◌≡◌, ◌<◌, ℕ, get_or, length}
use Rattle.pb_lifted.proofs.climb.places.Given as goal

abbrev pub invariant-loop-i : goal.invariant-loop-i
invariant-loop-i l = record {
  count : length l.all.items ≡ l.i;
  each : (k : ℕ) → k < l.i → get_or l.all.items k 0 ≡ k;
}
