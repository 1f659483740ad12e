use Rattle.std.proofs.Common.{◌<◌}
use Rattle.pb_lease.specs.Free.{Shows}
use Rattle.pb_lease.proofs.graph.free.show_every.Given as goal

abbrev pub invariant-loop-block : goal.invariant-loop-block
invariant-loop-block l = Shows (λ b. b < l.block) l.homes.keys l.initial.free l.free
