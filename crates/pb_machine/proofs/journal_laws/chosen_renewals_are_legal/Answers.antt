use Rattle.pb_machine.proofs.LegalEvents as law
use Rattle.pb_machine.proofs.journal_laws.chosen_renewals_are_legal.Goals as goal

pub returns : goal.returns
returns c = law.chosen_renewals_are_legal
