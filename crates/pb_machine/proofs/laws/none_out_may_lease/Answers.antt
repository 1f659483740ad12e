use Rattle.pb_machine.proofs.MomentLaws as law
use Rattle.pb_machine.proofs.laws.none_out_may_lease.Goals as goal

pub returns : goal.returns
returns c = law.none_out_may_lease
