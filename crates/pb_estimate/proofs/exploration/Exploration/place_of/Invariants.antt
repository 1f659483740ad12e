use Rattle.std.proofs.Common.{◌≤◌, length}
use Rattle.pb_estimate.proofs.exploration.Exploration.place_of.Given as goal

abbrev pub invariant-loop-at : goal.invariant-loop-at
invariant-loop-at l = record {
  places : l.self.reached ≤ length l.self.queue.items;
}
