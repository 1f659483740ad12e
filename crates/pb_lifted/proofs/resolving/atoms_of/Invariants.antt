use Rattle.std.proofs.Common.{◌≡◌, take}
use Rattle.pb_lifted.specs.Lifted.{atoms_of}
use Rattle.pb_lifted.proofs.resolving.atoms_of.Given as goal

abbrev pub invariant-loop-atom : goal.invariant-loop-atom
invariant-loop-atom l = l.list ≡ atoms_of l.predicates l.objects l.params (take l.atom-index l.atoms)
