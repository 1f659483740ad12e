use Rattle.std.proofs.Common.{◌≡◌, ℕ, ◌-◌, ◌<◌, ◌≤◌, get_or, true, length}
use Rattle.pb_estimate.specs.Exploring.{is_final_in}
use Rattle.pb_estimate.proofs.exploration.Exploration.first_open.Given as goal

abbrev pub invariant-loop-first : goal.invariant-loop-first
invariant-loop-first l = record {
  reached : l.first ≤ l.self.reached;
  places : l.self.reached ≤ length l.self.queue.items;
  passed : (k : ℕ) → k < l.first → is_final_in l.self.costs.items (get_or l.self.queue.items k 0) ≡ true;
}

abbrev pub decreases-loop-first : goal.decreases-loop-first
decreases-loop-first l = l.self.reached - l.first
