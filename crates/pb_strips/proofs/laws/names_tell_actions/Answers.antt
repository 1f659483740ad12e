use Rattle.pb_strips.proofs.Telling.{names_tell_actions}
use Rattle.pb_strips.proofs.laws.names_tell_actions.Goals as goal

pub returns : goal.returns
returns c = names_tell_actions
