use Rattle.pb_machine.proofs.OwnMoves as law
use Rattle.pb_machine.proofs.laws.none_out_untold.Goals as goal

pub returns : goal.returns
returns c = law.none_out_untold
