use Rattle.std.proofs.Common.{◌≡◌, length}
use Rattle.pb_bundles.proofs.tree_tests.the_tree_chooses_as_a_look_at_all.Given as goal

abbrev pub invariant-loop-seed : goal.invariant-loop-seed
invariant-loop-seed g l = length l.keys ≡ l.count
