use Rattle.pb_run.proofs.FallingReports as law
use Rattle.pb_run.proofs.laws_falling.claims_are_told_by_their_text.Goals as goal

pub returns : goal.returns
returns c = law.claims_are_told_by_their_text
