use Rattle.std.proofs.Common.{◌≡◌, ◌<◌, ◌≤◌, ℕ, length}
use Rattle.pb_bundles.specs.Tree.{IsWon}
use Rattle.pb_bundles.proofs.tree.build.Given as goal

abbrev pub invariant-loop-at : goal.invariant-loop-at
invariant-loop-at l = record {
  places : length l.winners.items ≡ length l.keys;
  within : l.at ≤ length l.keys;
  won : (at : ℕ) → 1 ≤ at → l.at ≤ at → at < length l.keys → IsWon l.keys l.winners.items at;
}

abbrev pub decreases-loop-at : goal.decreases-loop-at
decreases-loop-at l = l.at
