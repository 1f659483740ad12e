use Rattle.pb_pattern.proofs.Rounds as law
use Rattle.pb_pattern.proofs.laws.rounds_give_least.Goals as goal

pub returns : goal.returns
returns c = law.rounds_give_least
