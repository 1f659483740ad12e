use Rattle.pb_lease.proofs.MomentsStay as law
use Rattle.pb_lease.proofs.laws.tells_keep_moments.Goals as goal

pub returns : goal.returns
returns c = law.tells_keep_moments
