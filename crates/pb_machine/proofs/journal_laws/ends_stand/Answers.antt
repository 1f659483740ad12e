use Rattle.pb_machine.proofs.EndsTold as law
use Rattle.pb_machine.proofs.journal_laws.ends_stand.Goals as goal

pub returns : goal.returns
returns c = law.ends_stand
