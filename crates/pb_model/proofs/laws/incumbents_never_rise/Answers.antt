use Rattle.pb_model.proofs.Shown as law
use Rattle.pb_model.proofs.laws.incumbents_never_rise.Goals as goal

pub returns : goal.returns
returns c = law.incumbents_never_rise
