use Rattle.std.proofs.Common.{◌≡◌, ◌≤◌, ◌-◌, ◌^◌, length}
use Rattle.pb_abstract.specs.Ranking.{AreFirst}
use Rattle.pb_abstract.proofs.tracking.choose_atoms.Given as goal

abbrev pub invariant-loop-blocks : goal.invariant-loop-blocks
invariant-loop-blocks l = record {
  first : AreFirst l.strips l.atoms;
  count : l.blocks ≡ 2 ^ length l.atoms;
  few : l.blocks ≤ l.wish;
}

abbrev pub decreases-loop-blocks : goal.decreases-loop-blocks
decreases-loop-blocks l = l.wish - l.blocks
