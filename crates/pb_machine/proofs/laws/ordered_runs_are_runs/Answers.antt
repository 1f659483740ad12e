use Rattle.pb_machine.proofs.LeaseTurns as law
use Rattle.pb_machine.proofs.laws.ordered_runs_are_runs.Goals as goal

pub returns : goal.returns
returns c = law.ordered_runs_are_runs
