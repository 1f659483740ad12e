use Rattle.pb_machine.proofs.Holding as law
use Rattle.pb_machine.proofs.journal_laws.last_views_tell_all.Goals as goal

pub returns : goal.returns
returns c = law.last_views_tell_all
