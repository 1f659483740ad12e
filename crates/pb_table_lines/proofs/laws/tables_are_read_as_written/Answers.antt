use Rattle.pb_table_lines.proofs.ReadBack as law
use Rattle.pb_table_lines.proofs.laws.tables_are_read_as_written.Goals as goal

pub returns : goal.returns
returns c = law.tables_are_read_as_written
