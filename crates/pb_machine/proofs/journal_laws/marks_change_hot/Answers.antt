use Rattle.pb_machine.proofs.Counters as law
use Rattle.pb_machine.proofs.journal_laws.marks_change_hot.Goals as goal

pub returns : goal.returns
returns c = law.marks_change_hot
