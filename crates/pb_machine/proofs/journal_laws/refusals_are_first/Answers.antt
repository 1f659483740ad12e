use Rattle.pb_machine.proofs.Histories as law
use Rattle.pb_machine.proofs.journal_laws.refusals_are_first.Goals as goal

pub returns : goal.returns
returns c = law.refusals_are_first
