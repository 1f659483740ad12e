use Rattle.pb_model.proofs.Shown as law
use Rattle.pb_model.proofs.laws.quiet_incumbents_hold.Goals as goal

pub returns : goal.returns
returns c = law.quiet_incumbents_hold
