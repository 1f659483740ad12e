use Rattle.pb_tables.proofs.Examples as law
use Rattle.pb_tables.proofs.laws.examples_are_judged.Goals as goal

pub returns : goal.returns
returns c = law.examples_are_judged
