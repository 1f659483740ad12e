use Rattle.pb_lease.proofs.WorkedOut as law
use Rattle.pb_lease.proofs.laws.worked_leases_are_out.Goals as goal

pub returns : goal.returns
returns c = law.worked_leases_are_out
