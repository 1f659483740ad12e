use Rattle.pb_journal.proofs.Finished.{accepted_journals_are_finished}
use Rattle.pb_journal.proofs.laws.accepted_journals_are_finished.Goals as goal

pub returns : goal.returns
returns c = accepted_journals_are_finished
