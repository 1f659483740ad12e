use Rattle.pb_lines.proofs.Joined.{parts_are_joined}
use Rattle.pb_lines.proofs.laws.parts_are_joined.Goals as goal

pub returns : goal.returns
returns c = parts_are_joined
