use Rattle.pb_machine.proofs.MomentLaws as law
use Rattle.pb_machine.proofs.laws.costs_grow_by_expansions.Goals as goal

pub returns : goal.returns
returns c = law.costs_grow_by_expansions
