use Rattle.std.proofs.Common.{sym, ◌∙◌}
use Rattle.pb_task.proofs.Exchanges.{not_at}
use Rattle.pb_task.proofs.tiles.is_at.Goals as goal

pub returns-else-has_numbers : goal.returns-else-has_numbers
returns-else-has_numbers c =
    c.if-has_numbers.false
    ∙ not_at c.args.state.now c.bits-word.result c.args.board.now c.requires.few c.requires.small c.bits-word.ensures (sym c.has_numbers.ensures ∙ c.if-has_numbers.false)
