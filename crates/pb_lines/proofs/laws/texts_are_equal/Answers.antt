use Rattle.pb_lines.proofs.Joined.{texts_are_equal}
use Rattle.pb_lines.proofs.laws.texts_are_equal.Goals as goal

pub returns : goal.returns
returns c = texts_are_equal
