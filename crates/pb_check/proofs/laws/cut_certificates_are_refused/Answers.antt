use Rattle.pb_check.proofs.Cuts.{cut_certificates_are_refused}
use Rattle.pb_check.proofs.laws.cut_certificates_are_refused.Goals as goal

pub returns : goal.returns
returns c = cut_certificates_are_refused
