use Rattle.std.proofs.Common.{sym, ap, ◌∙◌, arith}
use Rattle.pb_machine.proofs.Callers.{any_at}
use Rattle.pb_abstract.specs.Borders.{are_joined, border_cell}
use Rattle.pb_abstract.proofs.Members.{any_one_more}
use Rattle.pb_abstract.proofs.squares.crosses.Goals as goal

pub returns-then-are_joined : goal.returns-then-are_joined
returns-then-are_joined c =
    sym (any_at c.args.side c.loop-i.i (λ i. are_joined c.args.grid.now (border_cell c.args.side c.args.column c.args.row c.args.action i) c.args.action) (omega arith)
    (ap (λ cell. are_joined c.args.grid.now cell c.args.action) (sym c.border_cell.ensures.cell) ∙ sym c.are_joined.ensures ∙ c.if-are_joined.true))

pub loop-i-preserved : goal.loop-i-preserved
loop-i-preserved c =
    any_one_more c.loop-i.i (λ i. are_joined c.args.grid.now (border_cell c.args.side c.args.column c.args.row c.args.action i) c.args.action)
    (ap (λ cell. are_joined c.args.grid.now cell c.args.action) (sym c.border_cell.ensures.cell) ∙ sym c.are_joined.ensures ∙ c.if-are_joined.false) c.loop-i.invariant
