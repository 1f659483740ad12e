use Rattle.pb_machine.proofs.MomentLaws as law
use Rattle.pb_machine.proofs.laws.lawful_stores_are_sound.Goals as goal

pub returns : goal.returns
returns c = law.lawful_stores_are_sound
