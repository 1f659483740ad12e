use Rattle.pb_yard.proofs.Meaning as law
use Rattle.pb_yard.proofs.laws.yards_are_lawful.Goals as goal

pub returns : goal.returns
returns c = law.yards_are_lawful
