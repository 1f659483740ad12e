use Rattle.pb_run.proofs.Accepted as law
use Rattle.pb_run.proofs.laws.saved_certificates_are_accepted.Goals as goal

pub returns : goal.returns
returns c = law.saved_certificates_are_accepted
