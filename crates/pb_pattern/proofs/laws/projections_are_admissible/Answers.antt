use Rattle.pb_pattern.proofs.Projections as law
use Rattle.pb_pattern.proofs.laws.projections_are_admissible.Goals as goal

pub returns : goal.returns
returns c = law.projections_are_admissible
