use Rattle.pb_model.proofs.Tracing as law
use Rattle.pb_model.proofs.laws.walks_are_determined.Goals as goal

pub returns : goal.returns
returns c = law.walks_are_determined
