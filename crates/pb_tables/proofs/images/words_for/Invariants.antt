use Rattle.std.proofs.Common.{◌<◌, ◌≤◌, ◌*◌, ◌^◌}
use Rattle.pb_tables.proofs.images.words_for.Given as goal

abbrev pub invariant-loop-width : goal.invariant-loop-width
invariant-loop-width l = record {
  fits : l.image < 2 ^ (64 * l.width);
  some : 1 ≤ l.width;
  most : l.width ≤ 16;
}

abbrev pub decreases-loop-width : goal.decreases-loop-width
decreases-loop-width l = l.width
