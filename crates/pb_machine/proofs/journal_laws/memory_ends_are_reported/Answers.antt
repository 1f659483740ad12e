use Rattle.pb_machine.proofs.Histories as law
use Rattle.pb_machine.proofs.journal_laws.memory_ends_are_reported.Goals as goal

pub returns : goal.returns
returns c = law.memory_ends_are_reported
