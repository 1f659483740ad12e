use Rattle.pb_check.proofs.CaseOf.{refusals_have_their_case}
use Rattle.pb_check.proofs.laws.refusals_have_their_case.Goals as goal

pub returns : goal.returns
returns c = refusals_have_their_case
