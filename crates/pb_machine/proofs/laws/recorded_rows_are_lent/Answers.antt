use Rattle.pb_machine.proofs.WholeStore as law
use Rattle.pb_machine.proofs.laws.recorded_rows_are_lent.Goals as goal

pub returns : goal.returns
returns c = law.recorded_rows_are_lent
