use Rattle.pb_run.proofs.FallingAccepted as law
use Rattle.pb_run.proofs.laws_falling.saved_claims_are_accepted.Goals as goal

pub returns : goal.returns
returns c = law.saved_claims_are_accepted
