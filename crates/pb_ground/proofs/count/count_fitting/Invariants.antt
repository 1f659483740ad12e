use Rattle.std.proofs.Common.{◌≡◌, ◌+◌, ◌≤◌, drop, length}
use Rattle.pb_ground.specs.Instances.{fitting, fitting_from}
use Rattle.pb_ground.proofs.count.count_fitting.Given as goal

abbrev pub invariant-loop-kind : goal.invariant-loop-kind
invariant-loop-kind l = record {
  counted : l.count + length (fitting_from l.lifted.types l.wanted l.kind-index (drop l.kind-index l.lifted.objects)) ≡ length (fitting l.lifted l.wanted);
  few : l.count ≤ l.kind-index;
}
