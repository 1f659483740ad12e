use Rattle.pb_machine.proofs.Histories as law
use Rattle.pb_machine.proofs.journal_laws.signing_off_is_told.Goals as goal

pub returns : goal.returns
returns c = law.signing_off_is_told
