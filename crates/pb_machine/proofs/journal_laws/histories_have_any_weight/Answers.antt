use Rattle.pb_machine.proofs.EndsTold as law
use Rattle.pb_machine.proofs.journal_laws.histories_have_any_weight.Goals as goal

pub returns : goal.returns
returns c = law.histories_have_any_weight
