use Rattle.pb_ground.proofs.Keeping as law
use Rattle.pb_ground.proofs.laws.all_atoms_are_a_case.Goals as goal

pub returns : goal.returns
returns c = law.all_atoms_are_a_case
