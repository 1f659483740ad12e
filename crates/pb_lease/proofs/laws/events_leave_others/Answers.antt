use Rattle.pb_lease.proofs.MomentsStay as law
use Rattle.pb_lease.proofs.laws.events_leave_others.Goals as goal

pub returns : goal.returns
returns c = law.events_leave_others
