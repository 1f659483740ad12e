use Rattle.pb_journal.proofs.Searched as law
use Rattle.pb_journal.proofs.laws.searches_are_accepted.Goals as goal

pub returns : goal.returns
returns c = law.searches_are_accepted
