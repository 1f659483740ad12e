use Rattle.pb_machine.proofs.Histories as law
use Rattle.pb_machine.proofs.journal_laws.reports_end_searches.Goals as goal

pub returns : goal.returns
returns c = law.reports_end_searches
