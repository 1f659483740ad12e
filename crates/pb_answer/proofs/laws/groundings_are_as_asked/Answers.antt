use Rattle.pb_answer.proofs.InputKinds.{input_grounding}
use Rattle.pb_answer.proofs.laws.groundings_are_as_asked.Goals as goal

pub returns : goal.returns
returns c = input_grounding
