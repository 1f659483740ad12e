use Rattle.std.proofs.Common.{◌≡◌, ℕ, ◌-◌, ◌<◌, ◌≤◌, true, not, ◌&&◌, ◌||◌}
use Rattle.pb_task.specs.Strips.{has_atom}
use Rattle.pb_estimate.proofs.atom_sets.with_new.Given as goal

abbrev pub invariant-loop-atom : goal.invariant-loop-atom
invariant-loop-atom l = record {
  most : l.atom ≤ l.count;
  has : l.atom < l.count → has_atom l.more l.atom ≡ true;
  joined : (a : ℕ) → a < l.atom → has_atom l.joined a ≡ (has_atom l.set a || (has_atom l.more a && not (has_atom l.but a)));
  rest : (a : ℕ) → l.atom ≤ a → has_atom l.joined a ≡ has_atom l.set a;
}

abbrev pub decreases-loop-atom : goal.decreases-loop-atom
decreases-loop-atom l = l.count - l.atom
