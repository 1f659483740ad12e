use Rattle.pb_yard.proofs.Meaning as law
use Rattle.pb_yard.proofs.laws.lent_leases_are_out.Goals as goal

pub returns : goal.returns
returns c = law.lent_leases_are_out
