use Rattle.pb_yard.proofs.Told as law
use Rattle.pb_yard.proofs.laws.lent_leases_may_come_back.Goals as goal

pub returns : goal.returns
returns c = law.lent_leases_may_come_back
