use Rattle.pb_machine.proofs.CountsLaws as law
use Rattle.pb_machine.proofs.journal_laws.releases_cool_near.Goals as goal

pub returns : goal.returns
returns c = law.releases_cool_near
