use Rattle.pb_machine.proofs.LeaseWork as law
use Rattle.pb_machine.proofs.laws.lease_work_stays.Goals as goal

pub returns : goal.returns
returns c = law.lease_work_stays
