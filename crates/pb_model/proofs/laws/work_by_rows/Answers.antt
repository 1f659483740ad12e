use Rattle.pb_model.proofs.Growth as law
use Rattle.pb_model.proofs.laws.work_by_rows.Goals as goal

pub returns : goal.returns
returns c = law.work_by_rows
