use Rattle.pb_task.proofs.Widths.{states_fit_their_width}
use Rattle.pb_task.proofs.laws.states_fit_their_width.Goals as goal

pub returns : goal.returns
returns c = states_fit_their_width
