use Rattle.std.proofs.Common.{◌≡◌, ℕ, ◌-◌, ◌<◌, ◌≤◌, true}
use Rattle.pb_task.specs.Strips.{has_atom}
use Rattle.pb_estimate.specs.Layers.{is_reached, AreLayers}
use Rattle.pb_estimate.proofs.layers.Layers.begin.Given as goal

abbrev pub invariant-loop-atom : goal.invariant-loop-atom
invariant-loop-atom l = record {
  is : AreLayers l.goal l.self;
  most : l.atom ≤ l.atoms;
  has : l.atom < l.atoms → has_atom l.state l.atom ≡ true;
  holds : (atom : ℕ) → atom < l.atom → has_atom l.state atom ≡ true → is_reached l.self atom ≡ true;
  only : (atom : ℕ) → is_reached l.self atom ≡ true → has_atom l.state atom ≡ true;
}

abbrev pub decreases-loop-atom : goal.decreases-loop-atom
decreases-loop-atom l = l.atoms - l.atom
