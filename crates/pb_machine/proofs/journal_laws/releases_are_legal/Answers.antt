use Rattle.pb_machine.proofs.LegalEvents as law
use Rattle.pb_machine.proofs.journal_laws.releases_are_legal.Goals as goal

pub returns : goal.returns
returns c = law.releases_are_legal
