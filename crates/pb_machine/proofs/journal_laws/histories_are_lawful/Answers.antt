use Rattle.pb_machine.proofs.Histories as law
use Rattle.pb_machine.proofs.journal_laws.histories_are_lawful.Goals as goal

pub returns : goal.returns
returns c = law.histories_are_lawful
