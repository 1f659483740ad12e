use Rattle.std.proofs.Common.{◌≡◌, length}
use Rattle.pb_bundles.proofs.tree_tests.fill.Given as goal

abbrev pub invariant-loop-block : goal.invariant-loop-block
invariant-loop-block l = length l.keys ≡ l.count
