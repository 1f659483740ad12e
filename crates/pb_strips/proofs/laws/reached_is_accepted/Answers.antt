use Rattle.pb_strips.proofs.Groundings as law
use Rattle.pb_strips.proofs.laws.reached_is_accepted.Goals as goal

pub returns : goal.returns
returns c = law.reached_is_accepted
