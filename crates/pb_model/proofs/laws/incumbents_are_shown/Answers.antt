use Rattle.pb_model.proofs.Shown as law
use Rattle.pb_model.proofs.laws.incumbents_are_shown.Goals as goal

pub returns : goal.returns
returns c = law.incumbents_are_shown
