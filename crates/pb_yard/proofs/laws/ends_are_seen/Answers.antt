use Rattle.pb_yard.proofs.Told as law
use Rattle.pb_yard.proofs.laws.ends_are_seen.Goals as goal

pub returns : goal.returns
returns c = law.ends_are_seen
