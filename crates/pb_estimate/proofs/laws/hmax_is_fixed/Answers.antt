use Rattle.pb_estimate.proofs.Fixed.{hmax_is_fixed}
use Rattle.pb_estimate.proofs.laws.hmax_is_fixed.Goals as goal

pub returns : goal.returns
returns c = hmax_is_fixed
