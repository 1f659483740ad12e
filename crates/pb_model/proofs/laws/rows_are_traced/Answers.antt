use Rattle.pb_model.proofs.Tracing as law
use Rattle.pb_model.proofs.laws.rows_are_traced.Goals as goal

pub returns : goal.returns
returns c = law.rows_are_traced
