use Rattle.pb_machine.proofs.Counters as law
use Rattle.pb_machine.proofs.journal_laws.events_change_busy.Goals as goal

pub returns : goal.returns
returns c = law.events_change_busy
