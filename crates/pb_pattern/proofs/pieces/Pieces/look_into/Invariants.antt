use Rattle.std.proofs.Common.{◌^◌}
use Rattle.pb_pattern.specs.Costs.{IsTable}
use Rattle.pb_pattern.specs.Graphs.{board_space}
use Rattle.pb_pattern.proofs.pieces.Pieces.look_into.Given as goal

abbrev pub invariant-loop-action : goal.invariant-loop-action
invariant-loop-action l = IsTable (board_space l.self) (16 ^ l.self.count) l.costs
