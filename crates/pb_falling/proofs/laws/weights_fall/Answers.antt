use Rattle.pb_falling.proofs.Weights as law
use Rattle.pb_falling.proofs.laws.weights_fall.Goals as goal

pub returns : goal.returns
returns c = law.weights_fall
