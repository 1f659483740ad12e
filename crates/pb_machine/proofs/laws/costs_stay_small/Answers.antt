use Rattle.pb_machine.proofs.MomentLaws as law
use Rattle.pb_machine.proofs.laws.costs_stay_small.Goals as goal

pub returns : goal.returns
returns c = law.costs_stay_small
