use Rattle.pb_lease.proofs.MomentsStay as law
use Rattle.pb_lease.proofs.laws.none_out_is_moment.Goals as goal

pub returns : goal.returns
returns c = law.none_out_is_moment
