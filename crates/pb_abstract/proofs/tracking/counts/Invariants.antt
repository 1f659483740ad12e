use Rattle.std.proofs.Common.{◌≡◌, ◌+◌, ◌<◌, ℕ, get_or, length, drop}
use Rattle.pb_abstract.specs.Tracked.{changers}
use Rattle.pb_abstract.proofs.tracking.counts.Given as goal

-- what was counted, and what is left
abbrev pub invariant-loop-at : goal.invariant-loop-at
invariant-loop-at l = record {
  len : length l.counts.items ≡ l.strips.atoms;
  each : (k : ℕ) → k < l.strips.atoms → get_or l.counts.items k 0 + changers k (drop l.at l.strips.actions) ≡ changers k l.strips.actions;
}
