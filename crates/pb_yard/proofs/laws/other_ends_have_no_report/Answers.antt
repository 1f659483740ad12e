use Rattle.pb_yard.proofs.Reports as law
use Rattle.pb_yard.proofs.laws.other_ends_have_no_report.Goals as goal

pub returns : goal.returns
returns c = law.other_ends_have_no_report
