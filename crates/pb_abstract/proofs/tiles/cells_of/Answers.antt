use Rattle.std.proofs.Common.{ℕ, ◌/◌, ◌%◌, List, length-set, sym, ap, ◌∙◌, arith}
use Rattle.pb_task.specs.Tiles.{board_of}
use Rattle.pb_task.proofs.Callers.{Listed, listed, number_at, next_digit}
use Rattle.pb_abstract.proofs.BoardCells.{one_more_cell, cells_known}
use Rattle.pb_abstract.proofs.tiles.cells_of.Goals as goal

pub loop-cell-preserved : goal.loop-cell-preserved
loop-cell-preserved c =
    let board : List ℕ = board_of c.args.count c.args.board in
    let l : Listed c.args.count board = listed c.args.count board c.requires.board in
    record {
      long = length-set _ _ _ ∙ c.loop-cell.invariant.long;
      rest = ap (λ n. n / 16) c.loop-cell.invariant.rest ∙ next_digit c.args.board c.loop-cell.cell;
      known = one_more_cell c.args.count c.loop-cell.cell (c.loop-cell.rest % 16) board c.loop-cell.cells l (omega arith)
          (ap (λ n. n % 16) c.loop-cell.invariant.rest ∙ sym (number_at c.args.count c.args.board c.loop-cell.cell (omega arith)))
          (omega (arith, c.loop-cell.invariant.long)) c.loop-cell.invariant.known;
    }

pub returns : goal.returns
returns c = λ number less.
    cells_known c.args.count number (board_of c.args.count c.args.board) c.loop-cell.cells (listed c.args.count (board_of c.args.count c.args.board) c.requires.board) less
    (λ k k_less. c.loop-cell.invariant.known k (omega arith))
