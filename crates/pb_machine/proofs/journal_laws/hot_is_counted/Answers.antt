use Rattle.pb_machine.proofs.Counters as law
use Rattle.pb_machine.proofs.journal_laws.hot_is_counted.Goals as goal

pub returns : goal.returns
returns c = law.hot_is_counted
