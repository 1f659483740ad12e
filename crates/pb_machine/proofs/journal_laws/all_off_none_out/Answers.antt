use Rattle.pb_machine.proofs.EndsTold as law
use Rattle.pb_machine.proofs.journal_laws.all_off_none_out.Goals as goal

pub returns : goal.returns
returns c = law.all_off_none_out
