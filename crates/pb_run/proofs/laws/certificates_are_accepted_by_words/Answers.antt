use Rattle.pb_run.proofs.Accepted as law
use Rattle.pb_run.proofs.laws.certificates_are_accepted_by_words.Goals as goal

pub returns : goal.returns
returns c =
    law.certificates_are_accepted_by_words c.solve_reads_options.ensures c.check_reads_options.ensures
