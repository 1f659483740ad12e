use Rattle.pb_machine.proofs.Counters as law
use Rattle.pb_machine.proofs.journal_laws.busy_is_counted.Goals as goal

pub returns : goal.returns
returns c = law.busy_is_counted
