use Rattle.pb_machine.proofs.MomentLaws as law
use Rattle.pb_machine.proofs.laws.budget_ends_are_spent.Goals as goal

pub returns : goal.returns
returns c = law.budget_ends_are_spent
