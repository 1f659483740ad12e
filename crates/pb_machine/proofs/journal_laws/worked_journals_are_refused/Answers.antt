use Rattle.pb_machine.proofs.WorkedJournals as law
use Rattle.pb_machine.proofs.journal_laws.worked_journals_are_refused.Goals as goal

pub returns : goal.returns
returns c = law.worked_journals_are_refused
