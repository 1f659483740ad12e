use Rattle.pb_cert.proofs.Unique as law
use Rattle.pb_cert.proofs.laws.lines_are_unique.Goals as goal

pub returns : goal.returns
returns c = law.lines_are_unique
