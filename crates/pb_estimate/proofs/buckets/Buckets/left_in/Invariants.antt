use Rattle.std.proofs.Common.{◌%◌, ◌≤◌, get_or}
use Rattle.pb_estimate.specs.Exploring.{ArePassed}
use Rattle.pb_estimate.proofs.buckets.Buckets.left_in.Given as goal

abbrev pub invariant-loop-left : goal.invariant-loop-left
invariant-loop-left l = record {
  few : l.left ≤ get_or l.self.filled.items (l.cost % 64) 0;
  passed : ArePassed l.costs l.self.places.items (l.cost % 64) l.left (get_or l.self.filled.items (l.cost % 64) 0);
}

abbrev pub decreases-loop-left : goal.decreases-loop-left
decreases-loop-left l = l.left
