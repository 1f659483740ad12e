use Rattle.pb_lifted.proofs.Accepted.{well_typed_is_accepted}
use Rattle.pb_lifted.proofs.laws.well_typed_is_accepted.Goals as goal

pub returns : goal.returns
returns c = well_typed_is_accepted
