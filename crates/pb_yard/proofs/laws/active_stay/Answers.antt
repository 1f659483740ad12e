use Rattle.pb_yard.proofs.Told as law
use Rattle.pb_yard.proofs.laws.active_stay.Goals as goal

pub returns : goal.returns
returns c = law.active_stay
