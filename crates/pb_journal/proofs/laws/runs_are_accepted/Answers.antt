use Rattle.pb_journal.proofs.Searched as law
use Rattle.pb_journal.proofs.laws.runs_are_accepted.Goals as goal

pub returns : goal.returns
returns c = law.runs_are_accepted
