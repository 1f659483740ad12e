use Rattle.pb_check.proofs.CaseTold.{cases_are_refused}
use Rattle.pb_check.proofs.laws.cases_are_refused.Goals as goal

pub returns : goal.returns
returns c = cases_are_refused
