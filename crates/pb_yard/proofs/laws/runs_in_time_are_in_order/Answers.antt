use Rattle.pb_yard.proofs.InTime as law
use Rattle.pb_yard.proofs.laws.runs_in_time_are_in_order.Goals as goal

pub returns : goal.returns
returns c = law.runs_in_time_are_in_order
