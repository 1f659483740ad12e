use Rattle.pb_machine.proofs.LeaseWork as law
use Rattle.pb_machine.proofs.laws.returns_leave_incumbents.Goals as goal

pub returns : goal.returns
returns c = law.returns_leave_incumbents
