use Rattle.pb_machine.proofs.LegalEvents as law
use Rattle.pb_machine.proofs.journal_laws.choices_outlive_releases.Goals as goal

pub returns : goal.returns
returns c = law.choices_outlive_releases
