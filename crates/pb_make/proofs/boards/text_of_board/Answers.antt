use Rattle.std.proofs.Common.{get_or, codes, sym, ◌∙◌, arith}
use Rattle.pb_make.specs.Lines.{line}
use Rattle.pb_make.specs.Boards.{row_line}
use Rattle.pb_make.proofs.Nine.{board_text-nine}
use Rattle.pb_make.proofs.Rows.{four-lines}
use Rattle.pb_make.proofs.boards.text_of_board.Goals as goal

pub returns : goal.returns
returns c =
    let board = c.args.board.now in
    rw (c.in_ok-push_row-3.ensures, c.in_ok-push_row-2.ensures, c.in_ok-push_row.ensures, c.in_ok-text.ensures.items)
    (four-lines (line (codes "3 3")) (row_line (get_or board 0 0) (get_or board 1 0) (get_or board 2 0))
    (row_line (get_or board 3 0) (get_or board 4 0) (get_or board 5 0)) (row_line (get_or board 6 0) (get_or board 7 0) (get_or board 8 0))
    ∙ sym (board_text-nine board (omega arith)))
