use Rattle.std.proofs.Common.{take}
use Rattle.pb_lease.specs.Free.{Shows, IsIn}
use Rattle.pb_lease.proofs.graph.free.show_all.Given as goal

abbrev pub invariant-loop-block : goal.invariant-loop-block
invariant-loop-block l = Shows (IsIn (take l.block-index l.near)) l.homes.keys l.initial.free l.free
