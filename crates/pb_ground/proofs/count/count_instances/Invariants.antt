use Rattle.std.proofs.Common.{◌≡◌, ◌*◌, ◌≤◌, drop}
use Rattle.pb_ground.specs.Errors.{told}
use Rattle.pb_ground.specs.Instances.{candidates}
use Rattle.pb_ground.specs.Count.{product_of}
use Rattle.pb_ground.proofs.count.count_instances.Given as goal

abbrev pub invariant-loop-kind : goal.invariant-loop-kind
invariant-loop-kind l = record {
  counted : told (l.count * product_of (candidates l.lifted (drop l.kind-index l.kinds))) ≡ told (product_of (candidates l.lifted l.kinds));
  small : l.count ≤ 4294967295;
}
