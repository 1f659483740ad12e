use Rattle.std.proofs.Common.{◌≡◌, ◌++◌, drop}
use Rattle.pb_ground.specs.Atoms.{atoms_from, ground_atoms}
use Rattle.pb_ground.proofs.atoms.ground_atoms.Given as goal

abbrev pub invariant-loop-predicate : goal.invariant-loop-predicate
invariant-loop-predicate l = l.items ++ atoms_from l.lifted l.predicate (drop l.predicate l.lifted.predicates) ≡ ground_atoms l.lifted
