use Rattle.pb_make_laws.proofs.SpelledBoards.{made_boards_are_spelled}
use Rattle.pb_make_laws.proofs.laws.made_boards_are_spelled.Goals as goal

pub returns : goal.returns
returns c = made_boards_are_spelled
