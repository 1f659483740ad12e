use Rattle.pb_task.proofs.AtomSets.{sets_are_of_atoms}
use Rattle.pb_task.proofs.laws.sets_are_of_atoms.Goals as goal

pub returns : goal.returns
returns c = sets_are_of_atoms
