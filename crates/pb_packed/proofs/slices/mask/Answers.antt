use Rattle.pb_packed.proofs.Shifts.{ones}
use Rattle.pb_packed.proofs.slices.mask.Goals as goal

pub returns : goal.returns
returns c = ones c.args.len c.requires.short
