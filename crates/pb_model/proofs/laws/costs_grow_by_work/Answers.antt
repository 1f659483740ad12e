use Rattle.pb_model.proofs.Growth as law
use Rattle.pb_model.proofs.laws.costs_grow_by_work.Goals as goal

pub returns : goal.returns
returns c = law.costs_grow_by_work
