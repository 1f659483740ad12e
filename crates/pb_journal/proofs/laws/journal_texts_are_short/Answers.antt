use Rattle.pb_journal.proofs.Lengths as law
use Rattle.pb_journal.proofs.laws.journal_texts_are_short.Goals as goal

pub returns : goal.returns
returns c = law.journal_texts_are_short
