use Rattle.pb_machine.proofs.MomentLaws as law
use Rattle.pb_machine.proofs.laws.scopes_are_apart.Goals as goal

pub returns : goal.returns
returns c = law.scopes_are_apart
