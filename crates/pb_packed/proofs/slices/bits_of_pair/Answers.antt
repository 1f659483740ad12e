use Rattle.std.proofs.Common.{◌+◌, ap, ◌∙◌}
use Rattle.pb_packed.proofs.Shifts.{masked}
use Rattle.pb_packed.proofs.slices.bits_of_pair.Goals as goal

pub returns : goal.returns
returns c = masked _ c.args.len c.from.result (ap (λ n. n + 1) c.from.ensures ∙ c.mask.ensures)
