use Rattle.pb_machine.proofs.Holding as law
use Rattle.pb_machine.proofs.journal_laws.first_views_are_true.Goals as goal

pub returns : goal.returns
returns c = law.first_views_are_true
