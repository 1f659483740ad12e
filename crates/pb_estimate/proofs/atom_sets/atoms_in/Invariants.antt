use Rattle.std.proofs.Common.{◌≡◌, ◌-◌, ◌<◌, ◌≤◌, true}
use Rattle.pb_task.specs.Strips.{has_atom}
use Rattle.pb_estimate.specs.Tables.{atoms_in}
use Rattle.pb_estimate.proofs.atom_sets.atoms_in.Given as goal

abbrev pub invariant-loop-atom : goal.invariant-loop-atom
invariant-loop-atom l = record {
  atoms : l.atoms ≡ atoms_in l.set l.atom;
  most : l.atom ≤ l.count;
  has : l.atom < l.count → has_atom l.set l.atom ≡ true;
}

abbrev pub decreases-loop-atom : goal.decreases-loop-atom
decreases-loop-atom l = l.count - l.atom
