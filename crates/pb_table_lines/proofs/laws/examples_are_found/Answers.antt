use Rattle.pb_table_lines.proofs.Examples as law
use Rattle.pb_table_lines.proofs.laws.examples_are_found.Goals as goal

pub returns : goal.returns
returns c = law.examples_are_found
