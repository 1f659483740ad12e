use Rattle.std.proofs.Common.{◌≡◌, length}
use Rattle.pb_bundles.specs.Reopened.{AreReady}
use Rattle.pb_bundles.proofs.reopening.prepare_all.Given as goal

abbrev pub invariant-loop-block : goal.invariant-loop-block
invariant-loop-block l = record {
  ready : AreReady (record { num = l.num; den = l.den }) l.bound l.bundles l.sets.items;
  count : length l.sets.items ≡ l.block;
}
