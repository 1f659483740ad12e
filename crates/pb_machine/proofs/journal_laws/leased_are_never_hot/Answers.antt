use Rattle.pb_machine.proofs.CountsLaws as law
use Rattle.pb_machine.proofs.journal_laws.leased_are_never_hot.Goals as goal

pub returns : goal.returns
returns c = law.leased_are_never_hot
