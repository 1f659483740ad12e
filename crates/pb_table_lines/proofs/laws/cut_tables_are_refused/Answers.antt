use Rattle.pb_table_lines.proofs.Refused as law
use Rattle.pb_table_lines.proofs.laws.cut_tables_are_refused.Goals as goal

pub returns : goal.returns
returns c = law.cut_tables_are_refused
