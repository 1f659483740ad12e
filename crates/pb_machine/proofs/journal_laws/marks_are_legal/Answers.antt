use Rattle.pb_machine.proofs.LegalEvents as law
use Rattle.pb_machine.proofs.journal_laws.marks_are_legal.Goals as goal

pub returns : goal.returns
returns c = law.marks_are_legal
