use Rattle.pb_owners.proofs.Determined as law
use Rattle.pb_owners.proofs.laws.searches_are_alike.Goals as goal

pub returns : goal.returns
returns c = law.searches_are_alike
