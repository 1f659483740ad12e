use Rattle.std.proofs.Common.{◌≤◌, ℕ, List, IsTrue, subst, sym, ap, ◌∙◌, arith}
use Rattle.pb_task.specs.Tiles.{cell_count, board_of, is_board}
use Rattle.pb_task.proofs.Callers.{listed, board_in}
use Rattle.pb_abstract.specs.Placings.{IsPlacing, placing_number}
use Rattle.pb_abstract.proofs.BoardCells.{is_placing_of, placing_read, word_is}
use Rattle.pb_abstract.proofs.Ranks.{four_cells}
use Rattle.pb_abstract.proofs.tiles.block.Goals as goal

pub cells_of-cells-requires-clause-board : goal.cells_of-cells-requires-clause-board
cells_of-cells-requires-clause-board c =
    let count = cell_count c.args.tiles.now in
    subst (λ (board : List ℕ). IsTrue (is_board count board)) (ap (board_of count) (sym (word_is count c.args.state.now c.bits.result c.requires.state c.bits.ensures)))
    (board_in count c.args.state.now c.requires.state)

pub placing_number-requires-clause-placing : goal.placing_number-requires-clause-placing
placing_number-requires-clause-placing c =
    let count = cell_count c.args.tiles.now in
    let board : List ℕ = board_of count c.args.state.now in
    let many : 4 ≤ count = four_cells c.args.tiles.now c.requires.tiles in
    subst (IsPlacing count)
    (placing_read count c.args.state.now c.bits.result c.from.result c.from-2.result c.from-3.result (word_is count c.args.state.now c.bits.result c.requires.state c.bits.ensures)
    (c.from.ensures ∙ c.cells_of-cells.ensures 0 (omega (arith, many))) (c.from-2.ensures ∙ c.cells_of-cells.ensures 1 (omega (arith, many)))
    (c.from-3.ensures ∙ c.cells_of-cells.ensures 2 (omega (arith, many))))
    (is_placing_of count board (listed count board (board_in count c.args.state.now c.requires.state)) (omega (arith, many)))

pub returns : goal.returns
returns c =
    let count = cell_count c.args.tiles.now in
    let many : 4 ≤ count = four_cells c.args.tiles.now c.requires.tiles in
    c.placing_number.ensures
    ∙ ap (placing_number count c.args.projection)
    (sym (placing_read count c.args.state.now c.bits.result c.from.result c.from-2.result c.from-3.result (word_is count c.args.state.now c.bits.result c.requires.state c.bits.ensures)
    (c.from.ensures ∙ c.cells_of-cells.ensures 0 (omega (arith, many))) (c.from-2.ensures ∙ c.cells_of-cells.ensures 1 (omega (arith, many)))
    (c.from-3.ensures ∙ c.cells_of-cells.ensures 2 (omega (arith, many)))))
