use Rattle.std.proofs.Common.{◌≡◌, ℕ, ◌-◌, ◌<◌, ◌≤◌, true}
use Rattle.pb_task.specs.Strips.{has_atom}
use Rattle.pb_estimate.proofs.atom_sets.is_subset.Given as goal

abbrev pub invariant-loop-atom : goal.invariant-loop-atom
invariant-loop-atom l = record {
  most : l.atom ≤ l.count;
  has : l.atom < l.count → has_atom l.set l.atom ≡ true;
  within : (a : ℕ) → a < l.atom → has_atom l.set a ≡ true → has_atom l.other a ≡ true;
}

abbrev pub decreases-loop-atom : goal.decreases-loop-atom
decreases-loop-atom l = l.count - l.atom
