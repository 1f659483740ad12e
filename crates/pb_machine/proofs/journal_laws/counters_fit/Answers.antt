use Rattle.pb_machine.proofs.Counters as law
use Rattle.pb_machine.proofs.journal_laws.counters_fit.Goals as goal

pub returns : goal.returns
returns c = law.counters_fit
