use Rattle.pb_pattern.proofs.Atoms as law
use Rattle.pb_pattern.proofs.laws.strips_project.Goals as goal

pub returns : goal.returns
returns c = law.strips_project
