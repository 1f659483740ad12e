use Rattle.pb_yard.proofs.Told as law
use Rattle.pb_yard.proofs.laws.signing_off_is_seen.Goals as goal

pub returns : goal.returns
returns c = law.signing_off_is_seen
