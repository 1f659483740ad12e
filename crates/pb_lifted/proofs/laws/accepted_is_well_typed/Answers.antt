use Rattle.pb_lifted.proofs.WellTyped.{accepted_is_well_typed}
use Rattle.pb_lifted.proofs.KnownNames.{fitting_atoms_keep_facts}
use Rattle.pb_lifted.proofs.laws.accepted_is_well_typed.Goals as goal

pub returns-clause-typed : goal.returns-clause-typed
returns-clause-typed c = accepted_is_well_typed

pub returns-clause-facts : goal.returns-clause-facts
returns-clause-facts c = fitting_atoms_keep_facts
