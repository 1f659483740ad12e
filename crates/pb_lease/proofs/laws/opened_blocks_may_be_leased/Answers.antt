use Rattle.pb_lease.proofs.LeasingLaws as law
use Rattle.pb_lease.proofs.laws.opened_blocks_may_be_leased.Goals as goal

pub returns : goal.returns
returns c = law.opened_blocks_may_be_leased
