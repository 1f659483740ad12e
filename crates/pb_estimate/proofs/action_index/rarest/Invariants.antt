use Rattle.std.proofs.Common.{◌≡◌, ℕ, ◌-◌, ◌<◌, ◌≤◌, true}
use Rattle.std.specs.Prelude.{slice_index}
use Rattle.pb_task.specs.Strips.{has_atom}
use Rattle.pb_estimate.proofs.action_index.rarest.Given as goal

abbrev pub invariant-loop-atom : goal.invariant-loop-atom
invariant-loop-atom l = record {
  most : l.atom ≤ l.count;
  next : l.atom < l.count → has_atom l.set l.atom ≡ true;
  best : l.best ≤ l.count;
  has : l.best < l.count → has_atom l.set l.best ≡ true;
  least : (a : ℕ) → a < l.atom → has_atom l.set a ≡ true → (l.best < l.count) × (slice_index l.uses l.best ≤ slice_index l.uses a);
}

abbrev pub decreases-loop-atom : goal.decreases-loop-atom
decreases-loop-atom l = l.count - l.atom
