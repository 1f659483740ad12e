use Rattle.pb_machine.proofs.MomentLaws as law
use Rattle.pb_machine.proofs.laws.costs_fit.Goals as goal

pub returns : goal.returns
returns c = law.costs_fit
