use Rattle.std.proofs.Common.{◌≡◌}
use Rattle.pb_lease.specs.LeaseValue.{LeaseValue}
use Rattle.pb_workers.specs.Serving.{Serves}
use Rattle.pb_workers.proofs.holding.hold.Given as goal

abbrev pub invariant-turns : goal.invariant-turns
invariant-turns g l = record {
  serves : Serves l.worker (g.L.Lessor.searched l.lessor);
  searched : g.L.Lessor.searched l.lessor ≡ g.L.Lessor.searched l.initial.lessor;
  holds : (begin : _) (given : LeaseValue) → g.L.Lessor.holds begin given l.initial.lessor l.initial.held → g.L.Lessor.holds begin given l.lessor l.held;
}

abbrev pub decreases-turns : goal.decreases-turns
decreases-turns g l = g.L.Lessor.turns_left l.lessor l.held
