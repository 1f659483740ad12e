use Rattle.pb_machine.proofs.Histories as law
use Rattle.pb_machine.proofs.journal_laws.used_fits_budget.Goals as goal

pub returns : goal.returns
returns c = law.used_fits_budget
