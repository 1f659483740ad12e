use Rattle.std.proofs.Common.{◌≡◌, ◌+◌, ◌≤◌, drop, length}
use Rattle.pb_ground.specs.Errors.{told}
use Rattle.pb_ground.specs.Atoms.{atoms_from, ground_atoms}
use Rattle.pb_ground.proofs.count.count_atoms.Given as goal

abbrev pub invariant-loop-predicate : goal.invariant-loop-predicate
invariant-loop-predicate l = record {
  counted : told (l.count + length (atoms_from l.lifted l.predicate-counter (drop l.predicate-counter l.lifted.predicates))) ≡ told (length (ground_atoms l.lifted));
  small : l.count ≤ 4294967295;
}
