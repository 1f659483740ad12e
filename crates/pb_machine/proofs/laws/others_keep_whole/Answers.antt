use Rattle.pb_machine.proofs.WholeStore as law
use Rattle.pb_machine.proofs.laws.others_keep_whole.Goals as goal

pub returns : goal.returns
returns c = law.others_keep_whole
