use Rattle.pb_machine.proofs.MomentLaws as law
use Rattle.pb_machine.proofs.laws.journals_are_histories.Goals as goal

pub returns : goal.returns
returns c = law.journals_are_histories
