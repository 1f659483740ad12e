use Rattle.std.proofs.Common.{◌∙◌}
use Rattle.pb_task.specs.Tiles.{cell_count}
use Rattle.pb_task.proofs.Boards.{not_whole, is_whole, differ, agree}
use Rattle.pb_task.proofs.tiles.is_state.Goals as goal

pub returns-then-ne : goal.returns-then-ne
returns-then-ne c =
    not_whole (cell_count c.args.tiles.now) c.args.state.now c.bits-word.result c.of_word.result c.bits-word.ensures c.of_word.ensures
    (differ c.of_word.result c.args.state.now c.if-ne.ensures)

pub returns : goal.returns
returns c =
    c.is_board.ensures
    ∙ is_whole (cell_count c.args.tiles.now) c.args.state.now c.bits-word.result c.of_word.result _ c.bits-word.ensures c.of_word.ensures
    (agree c.of_word.result c.args.state.now c.if-ne.ensures) c.unpack-cells.ensures
