use Rattle.pb_machine.proofs.Meeting as law
use Rattle.pb_machine.proofs.journal_laws.meeting_keeps_views.Goals as goal

pub returns : goal.returns
returns c = law.meeting_keeps_views
