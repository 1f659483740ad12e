use Rattle.std.proofs.Common.{◌<◌, ◌≤◌, ◌*◌, ◌^◌}
use Rattle.pb_packed.specs.Sizes.{state_bits}
use Rattle.pb_task.proofs.atom_sets.words_for.Given as goal

abbrev pub invariant-loop-width : goal.invariant-loop-width
invariant-loop-width l = record {
  fits : l.set < 2 ^ (64 * l.width);
  some : 1 ≤ l.width;
  most : 64 * l.width ≤ state_bits;
}

abbrev pub decreases-loop-width : goal.decreases-loop-width
decreases-loop-width l = l.width
