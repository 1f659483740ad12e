use Rattle.pb_journal.proofs.Faulty.{refused_lines_are_first}
use Rattle.pb_journal.proofs.laws.refused_lines_are_first.Goals as goal

pub returns : goal.returns
returns c = refused_lines_are_first
