use Rattle.pb_machine.proofs.Showing as law
use Rattle.pb_machine.proofs.laws.returns_show_work.Goals as goal

pub returns : goal.returns
returns c = law.returns_show_work
