use Rattle.pb_machine.proofs.Reports as law
use Rattle.pb_machine.proofs.laws.waiting_reports_are_one.Goals as goal

pub returns : goal.returns
returns c = law.waiting_reports_are_one
