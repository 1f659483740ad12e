use Rattle.std.proofs.Common.{◌≡◌, take}
use Rattle.pb_task.proofs.atom_sets.AtomSets.widened.Given as goal

abbrev pub invariant-loop-i : goal.invariant-loop-i
invariant-loop-i l = record {
  sets : l.wider.sets ≡ take l.i l.self.sets;
  width : l.wider.width ≡ l.width;
}
