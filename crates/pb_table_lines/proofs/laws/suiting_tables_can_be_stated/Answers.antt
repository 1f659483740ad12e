use Rattle.pb_table_lines.proofs.Suiting as law
use Rattle.pb_table_lines.proofs.laws.suiting_tables_can_be_stated.Goals as goal

pub returns : goal.returns
returns c = law.suiting_tables_can_be_stated
