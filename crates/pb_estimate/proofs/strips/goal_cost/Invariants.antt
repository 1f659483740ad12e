use Rattle.std.proofs.Common.{◌≡◌, ◌≤◌, true}
use Rattle.pb_task.specs.Strips.{has_atom}
use Rattle.pb_estimate.specs.Exploring.{waiting, IsExploration}
use Rattle.pb_estimate.proofs.Underway.{IsOnItsWay}
use Rattle.pb_estimate.proofs.strips.goal_cost.Given as goal

abbrev pub invariant-loop-atom : goal.invariant-loop-atom
invariant-loop-atom l = record {
  is : IsExploration l.exploration;
  way : IsOnItsWay l.strips l.state l.task l.level l.counts l.exploration.costs.items;
  wanted : l.wanted ≡ waiting (has_atom l.strips.goal) l.exploration.costs.items l.strips.atoms;
  some : 1 ≤ l.wanted;
}

abbrev pub decreases-loop-atom : goal.decreases-loop-atom
decreases-loop-atom l = waiting (λ _. true) l.exploration.costs.items l.strips.atoms
