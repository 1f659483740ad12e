use Rattle.pb_machine.proofs.OwnMoves as law
use Rattle.pb_machine.proofs.laws.recorded_where_leased.Goals as goal

pub returns : goal.returns
returns c = law.recorded_where_leased
