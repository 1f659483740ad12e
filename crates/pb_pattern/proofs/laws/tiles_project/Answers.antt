use Rattle.pb_pattern.proofs.Placings as law
use Rattle.pb_pattern.proofs.laws.tiles_project.Goals as goal

pub returns : goal.returns
returns c = law.tiles_project
