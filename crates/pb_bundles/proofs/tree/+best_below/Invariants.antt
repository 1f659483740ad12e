use Rattle.std.proofs.Common.{◌-◌, ◌*◌, length}
use Rattle.pb_bundles.proofs.tree.+best_below.Given as goal

abbrev pub decreases-best_below : goal.decreases-best_below
decreases-best_below g l = 2 * length l.keys.now - l.at
