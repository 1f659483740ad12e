use Rattle.std.proofs.Common.{refl}
use Rattle.pb_falling.proofs.laws.worked_weights.Goals as goal

pub returns : goal.returns
returns c = (refl, refl)
