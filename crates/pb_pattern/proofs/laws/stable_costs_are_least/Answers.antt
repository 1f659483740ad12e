use Rattle.pb_pattern.proofs.Walks as law
use Rattle.pb_pattern.proofs.laws.stable_costs_are_least.Goals as goal

pub returns : goal.returns
returns c = law.stable_costs_are_least
