use Rattle.pb_lease.specs.Free.{KeepsClear}
use Rattle.pb_lease.proofs.graph.free.prune.Given as goal

abbrev pub invariant-loop : goal.invariant-loop
invariant-loop l = KeepsClear l.tables l.initial.free l.free
