use Rattle.pb_tiles.proofs.CaseOf.{refusals_have_their_case}
use Rattle.pb_tiles.proofs.laws.refusals_have_their_case.Goals as goal

pub returns : goal.returns
returns c = refusals_have_their_case
