use Rattle.std.proofs.Common.{◌≡◌, not}
use Rattle.pb_task.specs.Strips.{has_atom}
use Rattle.pb_pattern.specs.Projected.{atoms_by}
use Rattle.pb_pattern.proofs.images.other_atoms.Given as goal

abbrev pub invariant-loop-atom : goal.invariant-loop-atom
invariant-loop-atom l = l.atoms.items ≡ atoms_by (λ atom. not (has_atom l.goal atom)) l.atom
