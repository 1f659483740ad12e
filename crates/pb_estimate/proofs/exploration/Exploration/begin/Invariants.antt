use Rattle.std.proofs.Common.{◌≡◌, ℕ, ◌-◌, ◌<◌, ◌≤◌, length, true, None}
use Rattle.pb_task.specs.Strips.{has_atom}
use Rattle.pb_estimate.specs.Hmax.{IsAtMost}
use Rattle.pb_estimate.specs.Exploring.{cost_in, final_in, IsExploration}
use Rattle.pb_estimate.proofs.exploration.Exploration.begin.Given as goal

abbrev pub invariant-loop-atom : goal.invariant-loop-atom
invariant-loop-atom l = record {
  is : IsExploration l.self;
  long : length l.self.costs.items ≡ l.count;
  most : l.atom ≤ l.count;
  has : l.atom < l.count → has_atom l.state l.atom ≡ true;
  holds : (atom : ℕ) → atom < l.atom → has_atom l.state atom ≡ true → IsAtMost (cost_in l.self.costs.items atom) 0;
  only : (atom cost : ℕ) → IsAtMost (cost_in l.self.costs.items atom) cost → has_atom l.state atom ≡ true;
  finals : (atom : ℕ) → final_in l.self.costs.items atom ≡ None;
}

abbrev pub decreases-loop-atom : goal.decreases-loop-atom
decreases-loop-atom l = l.count - l.atom
