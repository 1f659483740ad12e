use Rattle.std.proofs.Common.{◌^◌, ◌||◌, refl, arith}
use Rattle.pb_pattern.specs.Graphs.{board_space}
use Rattle.pb_pattern.proofs.Looking.{first_from, next_from, all_from}
use Rattle.pb_pattern.proofs.Slots.{pieces_below}
use Rattle.pb_pattern.proofs.pieces.Pieces.look.Goals as goal

pub loop-image-init : goal.loop-image-init
loop-image-init c = first_from (board_space c.args.self.now) (16 ^ c.args.self.now.count) c.args.costs.now c.requires.table

pub look_from-lower-requires-clause-table : goal.look_from-lower-requires-clause-table
look_from-lower-requires-clause-table c = c.loop-image.invariant.table

pub loop-image-preserved : goal.loop-image-preserved
loop-image-preserved c =
    next_from (board_space c.args.self.now) (16 ^ c.args.self.now.count) c.loop-image.image c.args.costs.now c.loop-image.costs c.look_from-lower.new.costs c.loop-image.changed c.look_from-lower.result
    (c.loop-image.changed || c.look_from-lower.result) c.loop-image.invariant c.look_from-lower.ensures refl

pub returns : goal.returns
returns c =
    all_from (board_space c.args.self.now) (16 ^ c.args.self.now.count) c.loop-image.image c.args.costs.now c.loop-image.costs c.loop-image.changed c.requires.pieces.proper
    (pieces_below c.args.self.now c.requires.pieces) (omega (arith, c.loop-image-test.false, c.images-image-end.ensures)) c.loop-image.invariant
