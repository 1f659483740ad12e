use Rattle.pb_pattern.proofs.Settling as law
use Rattle.pb_pattern.proofs.laws.least_costs_are_small.Goals as goal

pub returns : goal.returns
returns c = law.least_costs_are_small
