use Rattle.pb_machine.proofs.Splitting as law
use Rattle.pb_machine.proofs.journal_laws.splitting_keeps_views.Goals as goal

pub returns : goal.returns
returns c = law.splitting_keeps_views
