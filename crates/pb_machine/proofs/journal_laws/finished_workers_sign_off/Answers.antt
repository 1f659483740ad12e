use Rattle.pb_machine.proofs.Histories as law
use Rattle.pb_machine.proofs.journal_laws.finished_workers_sign_off.Goals as goal

pub returns : goal.returns
returns c = law.finished_workers_sign_off
