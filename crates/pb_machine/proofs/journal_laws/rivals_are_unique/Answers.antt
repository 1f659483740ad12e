use Rattle.pb_machine.proofs.Choosing as law
use Rattle.pb_machine.proofs.journal_laws.rivals_are_unique.Goals as goal

pub returns : goal.returns
returns c = law.rivals_are_unique
