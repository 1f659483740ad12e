use Rattle.std.proofs.Common.{◌^◌, ◌||◌, refl, arith}
use Rattle.pb_pattern.specs.Graphs.{board_space}
use Rattle.pb_pattern.proofs.Looking.{first_way, next_way, all_ways, looked_at, inside_step}
use Rattle.pb_pattern.proofs.Slots.{pieces_below}
use Rattle.pb_pattern.proofs.pieces.Pieces.look_from.Goals as goal

pub loop-action-init : goal.loop-action-init
loop-action-init c = first_way (board_space c.args.self.now) (16 ^ c.args.self.now.count) c.args.image c.args.costs.now c.requires.table

pub relax-lower-requires-clause-step : goal.relax-lower-requires-clause-step
relax-lower-requires-clause-step c =
    inside_step (board_space c.args.self.now) (16 ^ c.args.self.now.count) c.loop-action.costs c.loop-action.invariant.table c.requires.pieces.proper (pieces_below c.args.self.now c.requires.pieces) c.args.image c.loop-action.action
    c.step-step.result c.step-step.ensures

pub relax-lower-requires-clause-small : goal.relax-lower-requires-clause-small
relax-lower-requires-clause-small c = c.loop-action.invariant.table.small

pub loop-action-preserved : goal.loop-action-preserved
loop-action-preserved c =
    next_way (board_space c.args.self.now) (16 ^ c.args.self.now.count) c.args.image c.loop-action.action c.args.costs.now c.loop-action.costs c.relax-lower.new.costs c.loop-action.changed c.relax-lower.result
    (c.loop-action.changed || c.relax-lower.result) c.loop-action.invariant
    (looked_at (board_space c.args.self.now) (16 ^ c.args.self.now.count) c.loop-action.costs c.relax-lower.new.costs c.relax-lower.result c.loop-action.invariant.table c.args.image c.loop-action.action
    c.step-step.result c.step-step.ensures c.requires.image c.relax-lower.ensures.after c.relax-lower.ensures.changed) refl

pub returns : goal.returns
returns c =
    all_ways (board_space c.args.self.now) (16 ^ c.args.self.now.count) c.args.image c.loop-action.action c.args.costs.now c.loop-action.costs c.loop-action.changed c.requires.pieces.proper
    (omega (arith, c.loop-action-test.false)) c.loop-action.invariant
