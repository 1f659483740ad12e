use Rattle.pb_journal.proofs.Cuts.{cut_journals_are_refused}
use Rattle.pb_journal.proofs.laws.cut_journals_are_refused.Goals as goal

pub returns : goal.returns
returns c = cut_journals_are_refused
