use Rattle.pb_ground.proofs.Membership.{atoms_are}
use Rattle.pb_ground.proofs.laws.atoms_are_all.Goals as goal

pub returns : goal.returns
returns c lifted atom = atoms_are lifted atom
