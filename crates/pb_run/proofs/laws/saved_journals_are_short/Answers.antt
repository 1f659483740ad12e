use Rattle.pb_run.proofs.Accepted as law
use Rattle.pb_run.proofs.laws.saved_journals_are_short.Goals as goal

pub returns : goal.returns
returns c =
    law.saved_journals_are_short c.written_journals_are_accepted.ensures
    c.journal_texts_are_short.ensures
