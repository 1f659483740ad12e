use Rattle.pb_table_lines.proofs.Refused as law
use Rattle.pb_table_lines.proofs.laws.refused_lines_are_first.Goals as goal

pub returns : goal.returns
returns c = law.refused_lines_are_first
