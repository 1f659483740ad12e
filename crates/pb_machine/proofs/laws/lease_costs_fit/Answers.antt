use Rattle.pb_machine.proofs.MomentLaws as law
use Rattle.pb_machine.proofs.laws.lease_costs_fit.Goals as goal

pub returns : goal.returns
returns c = law.lease_costs_fit
