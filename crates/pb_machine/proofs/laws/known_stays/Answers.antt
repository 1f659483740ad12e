use Rattle.pb_machine.proofs.MomentLaws as law
use Rattle.pb_machine.proofs.laws.known_stays.Goals as goal

pub returns : goal.returns
returns c = law.known_stays
