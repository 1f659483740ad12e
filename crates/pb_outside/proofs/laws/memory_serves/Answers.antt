use Rattle.pb_outside.proofs.Saves as law
use Rattle.pb_outside.proofs.laws.memory_serves.Goals as goal

pub returns : goal.returns
returns c = law.memory_serves
