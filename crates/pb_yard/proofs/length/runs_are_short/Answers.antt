use Rattle.pb_yard.proofs.Few as law
use Rattle.pb_yard.proofs.length.runs_are_short.Goals as goal

pub returns : goal.returns
returns c = law.runs_are_short
