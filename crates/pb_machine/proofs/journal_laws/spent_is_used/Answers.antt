use Rattle.pb_machine.proofs.Histories as law
use Rattle.pb_machine.proofs.journal_laws.spent_is_used.Goals as goal

pub returns : goal.returns
returns c = law.spent_is_used
