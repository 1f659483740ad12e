use Rattle.pb_machine.proofs.MomentLaws as law
use Rattle.pb_machine.proofs.laws.incumbents_fall.Goals as goal

pub returns : goal.returns
returns c = law.incumbents_fall
