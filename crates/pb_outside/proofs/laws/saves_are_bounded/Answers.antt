use Rattle.pb_outside.proofs.Saves as law
use Rattle.pb_outside.proofs.laws.saves_are_bounded.Goals as goal

pub returns : goal.returns
returns c = law.saves_are_bounded
