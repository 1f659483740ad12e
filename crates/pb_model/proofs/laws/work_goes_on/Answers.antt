use Rattle.pb_model.proofs.Locality as law
use Rattle.pb_model.proofs.laws.work_goes_on.Goals as goal

pub returns : goal.returns
returns c = law.work_goes_on
