use Rattle.std.proofs.Common.{◌^◌}
use Rattle.pb_pattern.specs.Costs.{Looks, IsFromBy}
use Rattle.pb_pattern.specs.Graphs.{board_space}
use Rattle.pb_pattern.proofs.pieces.Pieces.look_from.Given as goal

abbrev pub invariant-loop-action : goal.invariant-loop-action
invariant-loop-action l = Looks (board_space l.self) (16 ^ l.self.count) (IsFromBy l.image l.action) l.initial.costs l.costs l.changed
