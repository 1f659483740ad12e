use Rattle.pb_machine.proofs.Counters as law
use Rattle.pb_machine.proofs.journal_laws.interference_is_mutual.Goals as goal

pub returns : goal.returns
returns c = law.interference_is_mutual
