use Rattle.std.proofs.Common.{◌≡◌}
use Rattle.pb_task.specs.Strips.{has_atom}
use Rattle.pb_pattern.specs.Projected.{atoms_by}
use Rattle.pb_pattern.proofs.images.goal_atoms.Given as goal

abbrev pub invariant-loop-atom : goal.invariant-loop-atom
invariant-loop-atom l = l.atoms.items ≡ atoms_by (has_atom l.goal) l.atom
