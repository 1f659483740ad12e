use Rattle.pb_cert.proofs.Shown as law
use Rattle.pb_cert.proofs.laws.shown_rows_can_be_traced.Goals as goal

pub returns : goal.returns
returns c = law.shown_rows_can_be_traced
