use Rattle.pb_machine.proofs.Histories as law
use Rattle.pb_machine.proofs.journal_laws.histories_grow.Goals as goal

pub returns : goal.returns
returns c = law.histories_grow
