use Rattle.pb_tables.proofs.Admissible as law
use Rattle.pb_tables.proofs.laws.tables_are_admissible.Goals as goal

pub returns : goal.returns
returns c = law.tables_are_admissible
