use Rattle.pb_ground.proofs.Keeping as law
use Rattle.pb_ground.proofs.laws.kept_atoms_suffice.Goals as goal

pub returns : goal.returns
returns c = law.kept_atoms_suffice
