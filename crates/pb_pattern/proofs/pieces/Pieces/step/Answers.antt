use Rattle.std.proofs.Common.{◌∙◌}
use Rattle.pb_pattern.proofs.Slots.{step_none, step_some}
use Rattle.pb_pattern.proofs.pieces.Pieces.step.Goals as goal

pub returns-in_err-other : goal.returns-in_err-other
returns-in_err-other c =
    c.from_residual.ensures
    ∙ step_none c.args.self.now c.requires.pieces c.args.image c.args.action c.are_cells.result c.neighbour.result c.requires.image c.are_cells.ensures c.if-not-are_cells.false c.neighbour.ensures.cell c.in_err-other.was

pub returns : goal.returns
returns c =
    step_some c.args.self.now c.requires.pieces c.args.image c.args.action c.are_cells.result c.neighbour.result c.in_ok-other.other c.placing_after.result c.requires.image c.are_cells.ensures c.if-not-are_cells.false
    c.neighbour.ensures.cell c.in_ok-other.was c.placing_after.ensures.after
