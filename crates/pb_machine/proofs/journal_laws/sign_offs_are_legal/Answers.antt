use Rattle.pb_machine.proofs.LegalEvents as law
use Rattle.pb_machine.proofs.journal_laws.sign_offs_are_legal.Goals as goal

pub returns : goal.returns
returns c = law.sign_offs_are_legal
