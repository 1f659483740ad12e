use Rattle.std.proofs.Common.{IsTrue, List, ℕ, sym, subst, ◌∙◌}
use Rattle.pb_task.specs.Tiles.{cell_count, is_board}
use Rattle.pb_task.proofs.Boards.{cells_of_state, board_in}
use Rattle.pb_task.proofs.Sliding.{step_from}
use Rattle.pb_task.proofs.tiles.step.Goals as goal

pub slide-requires-clause-board : goal.slide-requires-clause-board
slide-requires-clause-board c =
    subst (λ (cells : List ℕ). IsTrue (is_board (cell_count c.args.tiles.now) cells))
    (sym (cells_of_state (cell_count c.args.tiles.now) c.args.from.now c.bits.result _ c.requires.state c.bits.ensures c.unpack-cells.ensures))
    (board_in (cell_count c.args.tiles.now) c.args.from.now c.requires.state)

pub returns : goal.returns
returns c =
    c.slide.ensures
    ∙ step_from c.args.tiles.now c.args.from.now c.args.action _ c.requires.state
    (cells_of_state (cell_count c.args.tiles.now) c.args.from.now c.bits.result _ c.requires.state c.bits.ensures c.unpack-cells.ensures)
