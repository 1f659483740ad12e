use Rattle.pb_lease.proofs.StaysOut as law
use Rattle.pb_lease.proofs.laws.leases_stay_out.Goals as goal

pub returns : goal.returns
returns c = law.leases_stay_out
