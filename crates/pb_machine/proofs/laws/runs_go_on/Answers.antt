use Rattle.pb_machine.proofs.LeaseTurns as law
use Rattle.pb_machine.proofs.laws.runs_go_on.Goals as goal

pub returns : goal.returns
returns c = law.runs_go_on
