use Rattle.pb_abstract.proofs.Walking.{edges_are_steps}
use Rattle.pb_abstract.proofs.laws.edges_are_steps.Goals as goal

pub returns : goal.returns
returns c = edges_are_steps
