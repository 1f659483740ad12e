use Rattle.pb_check.proofs.Written.{read_as_spelled}
use Rattle.pb_check.proofs.laws.read_as_spelled.Goals as goal

pub returns : goal.returns
returns c = read_as_spelled
