use Rattle.pb_run.proofs.FallingAccepted as law
use Rattle.pb_run.proofs.laws_falling.claims_are_accepted_by_words.Goals as goal

pub returns : goal.returns
returns c = law.claims_are_accepted_by_words c.falling_reads_options.ensures c.check_reads_options.ensures
