use Rattle.pb_table_lines.proofs.Numbered as law
use Rattle.pb_table_lines.proofs.laws.lines_have_their_numbers.Goals as goal

pub returns : goal.returns
returns c = law.lines_have_their_numbers
