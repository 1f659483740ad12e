use Rattle.pb_machine.proofs.CountsLaws as law
use Rattle.pb_machine.proofs.journal_laws.none_out_none_hot.Goals as goal

pub returns : goal.returns
returns c = law.none_out_none_hot
