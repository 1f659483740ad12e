use Rattle.pb_grid.proofs.Refusals.{refusals_are_of_texts}
use Rattle.pb_grid.proofs.laws.refusals_are_of_texts.Goals as goal

pub returns : goal.returns
returns c = refusals_are_of_texts
