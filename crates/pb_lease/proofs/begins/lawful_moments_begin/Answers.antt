use Rattle.pb_lease.proofs.Beginnings as law
use Rattle.pb_lease.proofs.begins.lawful_moments_begin.Goals as goal

pub returns : goal.returns
returns c = law.lawful_moments_begin
