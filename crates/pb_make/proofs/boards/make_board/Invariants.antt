use Rattle.std.proofs.Common.{◌≡◌, ◌-◌}
use Rattle.std.specs.List.{fold}
use Rattle.pb_make.specs.Draws.{draws}
use Rattle.pb_make.specs.Boards.{made_board, moved}
use Rattle.pb_make.proofs.boards.make_board.Given as goal

abbrev pub invariant-loop-move : goal.invariant-loop-move
invariant-loop-move l = fold moved l.board (draws (l.moves - l._move) l.generator.number) ≡ made_board l.seed l.moves
