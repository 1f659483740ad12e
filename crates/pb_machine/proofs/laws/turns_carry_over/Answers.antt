use Rattle.pb_machine.proofs.LeaseTurns as law
use Rattle.pb_machine.proofs.laws.turns_carry_over.Goals as goal

pub returns : goal.returns
returns c = law.turns_carry_over
