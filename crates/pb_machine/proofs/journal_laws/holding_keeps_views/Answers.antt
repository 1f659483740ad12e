use Rattle.pb_machine.proofs.Holding as law
use Rattle.pb_machine.proofs.journal_laws.holding_keeps_views.Goals as goal

pub returns : goal.returns
returns c = law.holding_keeps_views
