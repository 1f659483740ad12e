use Rattle.pb_pattern.proofs.Values as law
use Rattle.pb_pattern.proofs.laws.patterns_are_admissible.Goals as goal

pub returns : goal.returns
returns c = law.patterns_are_admissible
