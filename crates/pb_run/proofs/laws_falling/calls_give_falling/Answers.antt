use Rattle.pb_run.proofs.FallingHolds as law
use Rattle.pb_run.proofs.laws_falling.calls_give_falling.Goals as goal

pub returns : goal.returns
returns c = law.calls_give_falling
