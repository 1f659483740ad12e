use Rattle.pb_machine.proofs.Histories as law
use Rattle.pb_machine.proofs.journal_laws.beginnings_are_histories.Goals as goal

pub returns : goal.returns
returns c = law.beginnings_are_histories
