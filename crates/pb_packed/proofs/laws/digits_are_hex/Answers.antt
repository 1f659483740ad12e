use Rattle.pb_packed.proofs.DigitLaws as law
use Rattle.pb_packed.proofs.laws.digits_are_hex.Goals as goal

pub returns : goal.returns
returns c = law.digits_are_hex
