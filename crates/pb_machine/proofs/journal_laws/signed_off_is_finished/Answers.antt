use Rattle.pb_machine.proofs.Histories as law
use Rattle.pb_machine.proofs.journal_laws.signed_off_is_finished.Goals as goal

pub returns : goal.returns
returns c = law.signed_off_is_finished
