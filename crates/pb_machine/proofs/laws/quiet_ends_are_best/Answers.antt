use Rattle.pb_machine.proofs.MomentLaws as law
use Rattle.pb_machine.proofs.laws.quiet_ends_are_best.Goals as goal

pub returns : goal.returns
returns c = law.quiet_ends_are_best
