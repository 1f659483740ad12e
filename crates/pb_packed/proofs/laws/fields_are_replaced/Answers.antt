use Rattle.pb_packed.proofs.Fields as law
use Rattle.pb_packed.proofs.laws.fields_are_replaced.Goals as goal

pub returns : goal.returns
returns c = law.fields_are_replaced
