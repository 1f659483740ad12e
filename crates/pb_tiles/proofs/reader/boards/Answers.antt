use Rattle.std.proofs.Common.{sym, subst, ◌∙◌, List, ℕ}
use Rattle.pb_task.specs.Tiles.{IsTiles}
use Rattle.pb_tiles.proofs.Filling.{small_boards, are_tiles}
use Rattle.pb_tiles.proofs.reader.boards.Goals as goal

pub board_of-requires : goal.board_of-requires
board_of-requires c =
    (small_boards c.args.rows c.args.cols c.args.start.now c.args.goal.now c.requires.rows.1 c.requires.cols.1 (sym c.boards_fault.ensures ∙ c.in_default.is)).0

pub board_of-requires-2 : goal.board_of-requires-2
board_of-requires-2 c =
    (small_boards c.args.rows c.args.cols c.args.start.now c.args.goal.now c.requires.rows.1 c.requires.cols.1 (sym c.boards_fault.ensures ∙ c.in_default.is)).1

pub returns-clause-lawful : goal.returns-clause-lawful
returns-clause-lawful c =
    subst (λ (board : List ℕ). IsTiles (record { rows = c.args.rows; cols = c.args.cols; start = c.in_ok-start.start; goal = board })) (sym c.in_ok-goal.ensures)
    (subst (λ (board : List ℕ). IsTiles (record { rows = c.args.rows; cols = c.args.cols; start = board; goal = c.args.goal.now })) (sym c.in_ok-start.ensures)
    (are_tiles c.args.rows c.args.cols c.args.start.now c.args.goal.now c.requires.rows c.requires.cols (sym c.boards_fault.ensures ∙ c.in_default.is)))
