use Rattle.pb_machine.proofs.Histories as law
use Rattle.pb_machine.proofs.journal_laws.refused_journals_fail.Goals as goal

pub returns : goal.returns
returns c = law.refused_journals_fail
