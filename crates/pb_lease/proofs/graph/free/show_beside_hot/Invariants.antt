use Rattle.std.proofs.Common.{take}
use Rattle.pb_lease.specs.Free.{Shows, IsBesideHotIn}
use Rattle.pb_lease.proofs.graph.free.show_beside_hot.Given as goal

abbrev pub invariant-loop-other : goal.invariant-loop-other
invariant-loop-other l = Shows (IsBesideHotIn l.tables (take l.other-index l.near)) l.homes.keys l.initial.free l.free
