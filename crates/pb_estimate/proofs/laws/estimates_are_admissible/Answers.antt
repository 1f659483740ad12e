use Rattle.pb_estimate.proofs.Estimates.{estimates_are_admissible}
use Rattle.pb_estimate.proofs.laws.estimates_are_admissible.Goals as goal

pub returns : goal.returns
returns c = estimates_are_admissible
