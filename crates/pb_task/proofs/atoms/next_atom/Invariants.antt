use Rattle.std.proofs.Common.{◌≡◌, ℕ, ◌-◌, ◌<◌, ◌≤◌, false}
use Rattle.pb_task.specs.Strips.{has_atom}
use Rattle.pb_task.proofs.atoms.next_atom.Given as goal

abbrev pub invariant-loop-at : goal.invariant-loop-at
invariant-loop-at l = record {
  from : l.from ≤ l.at;
  most : l.at ≤ l.count;
  none : (atom : ℕ) → l.from ≤ atom → atom < l.at → has_atom l.set atom ≡ false;
}

abbrev pub decreases-loop-at : goal.decreases-loop-at
decreases-loop-at l = l.count - l.at
