use Rattle.pb_journal.proofs.Finished.{written_journals_are_accepted}
use Rattle.pb_journal.proofs.laws.written_journals_are_accepted.Goals as goal

pub returns : goal.returns
returns c = written_journals_are_accepted
