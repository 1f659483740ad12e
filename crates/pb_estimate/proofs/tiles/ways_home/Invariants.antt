use Rattle.std.proofs.Common.{◌≡◌, ℕ, ◌<◌, ◌/◌, ◌%◌, length, get_or}
use Rattle.pb_estimate.specs.Estimates.{way_home}
use Rattle.pb_estimate.proofs.tiles.ways_home.Given as goal

abbrev pub invariant-loop-place : goal.invariant-loop-place
invariant-loop-place l = record {
  long : length l.ways ≡ 256;
  known : (place : ℕ) → place < l.place → get_or l.ways place 0 ≡ way_home l.tiles.cols l.tiles.goal (place / 16) (place % 16);
}
