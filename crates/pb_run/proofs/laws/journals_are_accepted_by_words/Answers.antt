use Rattle.pb_run.proofs.Accepted as law
use Rattle.pb_run.proofs.laws.journals_are_accepted_by_words.Goals as goal

pub returns : goal.returns
returns c =
    law.journals_are_accepted_by_words c.saved_journals_are_accepted.ensures
    c.solve_reads_options.ensures c.journal_reads_options.ensures
