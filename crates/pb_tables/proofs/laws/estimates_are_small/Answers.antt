use Rattle.pb_tables.proofs.Estimating as law
use Rattle.pb_tables.proofs.laws.estimates_are_small.Goals as goal

pub returns : goal.returns
returns c = law.estimates_are_small
