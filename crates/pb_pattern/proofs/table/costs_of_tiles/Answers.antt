use Rattle.std.proofs.Common.{IfOk, sym, subst, suc, ◌^◌}
use Rattle.pb_pattern.specs.declared.pieces.Pieces.{Pieces}
use Rattle.pb_pattern.specs.Costs.{AreLeast}
use Rattle.pb_pattern.specs.Projected.{placing_space}
use Rattle.pb_pattern.specs.Graphs.{board_space, IsPieces}
use Rattle.pb_pattern.proofs.Imaged.{are_pieces}
use Rattle.pb_pattern.proofs.table.costs_of_tiles.Goals as goal

pub least_costs-requires : goal.least_costs-requires
least_costs-requires c = record { graph = subst IsPieces (sym c.pieces_of.ensures) (are_pieces c.args.tiles.now c.tracked_tiles-tracked.result c.requires c.tracked_tiles-tracked.ensures.few) }

pub returns : goal.returns
returns c =
    subst (λ t. IfOk c.least_costs.result (λ costs. AreLeast (placing_space c.args.tiles.now t) (16 ^ (suc t)) costs.items)) c.tracked_tiles-tracked.ensures.tracked
    (subst (λ (p : Pieces). IfOk c.least_costs.result (λ costs. AreLeast (board_space p) (16 ^ p.count) costs.items)) c.pieces_of.ensures c.least_costs.ensures)
