use Rattle.pb_machine.proofs.Rooms as law
use Rattle.pb_machine.proofs.journal_laws.journals_are_short.Goals as goal

pub returns : goal.returns
returns c = law.journals_are_short
