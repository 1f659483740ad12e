use Rattle.std.proofs.Common.{◌≡◌, ◌++◌, drop}
use Rattle.pb_ground.specs.Instances.{candidates}
use Rattle.pb_ground.proofs.fitting.candidates.Given as goal

abbrev pub invariant-loop-kind : goal.invariant-loop-kind
invariant-loop-kind l = l.lists ++ candidates l.lifted (drop l.kind-index l.kinds) ≡ candidates l.lifted l.kinds
