use Rattle.pb_machine.proofs.Reopening as law
use Rattle.pb_machine.proofs.laws.reopening_is_lawful.Goals as goal

pub returns : goal.returns
returns c = law.reopening_is_lawful
