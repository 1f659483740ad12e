use Rattle.std.proofs.Common.{◌≡◌, ◌++◌, drop}
use Rattle.pb_ground.specs.Instances.{fitting, fitting_from}
use Rattle.pb_ground.proofs.fitting.fitting.Given as goal

abbrev pub invariant-loop-i : goal.invariant-loop-i
invariant-loop-i l = l.list ++ fitting_from l.lifted.types l.wanted l.i (drop l.i l.lifted.objects) ≡ fitting l.lifted l.wanted
