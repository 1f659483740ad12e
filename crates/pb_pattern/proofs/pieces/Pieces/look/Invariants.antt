use Rattle.std.proofs.Common.{◌^◌}
use Rattle.pb_pattern.specs.Costs.{Looks, IsFromBelow}
use Rattle.pb_pattern.specs.Graphs.{board_space}
use Rattle.pb_pattern.proofs.pieces.Pieces.look.Given as goal

abbrev pub invariant-loop-image : goal.invariant-loop-image
invariant-loop-image l = Looks (board_space l.self) (16 ^ l.self.count) (IsFromBelow l.image) l.initial.costs l.costs l.changed
