use Rattle.std.proofs.Common.{take}
use Rattle.pb_bundles.specs.Homes.{key_at}
use Rattle.pb_bundles.specs.Moves.{is_among}
use Rattle.pb_bundles.specs.Choosing.{IsRivalBy}
use Rattle.pb_bundles.proofs.homes.Homes.rival.Given as goal

abbrev pub invariant-loop-other : goal.invariant-loop-other
invariant-loop-other l = IsRivalBy (is_among (take l.other-index l.near)) (key_at l.self) l.block l.best
