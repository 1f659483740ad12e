use Rattle.pb_packed.proofs.Shifts.{masked}
use Rattle.pb_packed.proofs.slices.bits_of_word.Goals as goal

pub returns : goal.returns
returns c = masked _ c.args.len c.mask.result c.mask.ensures
