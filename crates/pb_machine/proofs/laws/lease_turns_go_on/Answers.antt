use Rattle.pb_machine.proofs.LeaseTurns as law
use Rattle.pb_machine.proofs.laws.lease_turns_go_on.Goals as goal

pub returns : goal.returns
returns c = law.lease_turns_go_on
