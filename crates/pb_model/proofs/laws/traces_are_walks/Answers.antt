use Rattle.pb_model.proofs.Tracing as law
use Rattle.pb_model.proofs.laws.traces_are_walks.Goals as goal

pub returns : goal.returns
returns c = law.traces_are_walks
