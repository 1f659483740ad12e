use Rattle.pb_lines.proofs.Joined.{pieces_are_joined}
use Rattle.pb_lines.proofs.laws.pieces_are_joined.Goals as goal

pub returns : goal.returns
returns c = pieces_are_joined
