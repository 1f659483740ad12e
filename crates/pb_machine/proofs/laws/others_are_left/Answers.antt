use Rattle.pb_machine.proofs.OwnMoves as law
use Rattle.pb_machine.proofs.laws.others_are_left.Goals as goal

pub returns : goal.returns
returns c = law.others_are_left
