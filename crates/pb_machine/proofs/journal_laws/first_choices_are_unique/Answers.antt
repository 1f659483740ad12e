use Rattle.pb_machine.proofs.Choosing as law
use Rattle.pb_machine.proofs.journal_laws.first_choices_are_unique.Goals as goal

pub returns : goal.returns
returns c = law.first_choices_are_unique
