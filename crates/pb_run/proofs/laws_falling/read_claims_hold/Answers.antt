use Rattle.pb_run.proofs.FallingReadings as law
use Rattle.pb_run.proofs.laws_falling.read_claims_hold.Goals as goal

pub returns : goal.returns
returns c = law.read_claims_hold
