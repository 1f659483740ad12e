use Rattle.pb_pattern.proofs.Values as law
use Rattle.pb_pattern.proofs.laws.pattern_values_are_least.Goals as goal

pub returns : goal.returns
returns c = law.pattern_values_are_least
