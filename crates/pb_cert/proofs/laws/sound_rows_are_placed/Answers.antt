use Rattle.pb_cert.proofs.Unique as law
use Rattle.pb_cert.proofs.laws.sound_rows_are_placed.Goals as goal

pub returns : goal.returns
returns c = law.sound_rows_are_placed
