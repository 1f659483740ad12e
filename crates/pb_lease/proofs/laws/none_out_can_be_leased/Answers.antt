use Rattle.pb_lease.proofs.LeasingLaws as law
use Rattle.pb_lease.proofs.laws.none_out_can_be_leased.Goals as goal

pub returns : goal.returns
returns c = law.none_out_can_be_leased
