use Rattle.pb_pattern.proofs.Walks as law
use Rattle.pb_pattern.proofs.laws.least_costs_are_unique.Goals as goal

pub returns : goal.returns
returns c = law.least_costs_are_unique
