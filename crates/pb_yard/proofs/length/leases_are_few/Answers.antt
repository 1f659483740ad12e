use Rattle.pb_yard.proofs.Few as law
use Rattle.pb_yard.proofs.length.leases_are_few.Goals as goal

pub returns : goal.returns
returns c = law.leases_are_few
