use Rattle.std.proofs.Common.{take}
use Rattle.pb_lease.specs.Choices.{IsBestWithHome}
use Rattle.pb_lease.proofs.WithHome.{is_listed}
use Rattle.pb_lease.proofs.graph.LeaseGraph.choice_with_home.Given as goal

abbrev pub invariant-loop-other : goal.invariant-loop-other
invariant-loop-other l = IsBestWithHome l.self l.lease (is_listed l.self l.lease (take l.other-index l.near)) l.best
