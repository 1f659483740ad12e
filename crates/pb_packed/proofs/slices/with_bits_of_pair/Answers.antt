use Rattle.std.proofs.Common.{arith, ◌∙◌}
use Rattle.pb_packed.proofs.Shifts.{replaced_is, replaced_below}
use Rattle.pb_packed.proofs.slices.with_bits_of_pair.Goals as goal

pub overflow_add-result : goal.overflow_add-result
overflow_add-result c =
    let is = replaced_is c.args.pair 128 c.args.at c.args.len c.args.value c.from-old.result (omega arith) c.requires.within c.requires.fits (c.from-old.ensures ∙ c.bits_of_pair.ensures) in
    rw c.from.ensures omega (arith, is, replaced_below c.args.pair 128 c.args.at c.args.len c.args.value (omega arith) c.requires.within c.requires.fits)

pub returns : goal.returns
returns c =
    rw c.from.ensures
    (replaced_is c.args.pair 128 c.args.at c.args.len c.args.value c.from-old.result (omega arith) c.requires.within c.requires.fits (c.from-old.ensures ∙ c.bits_of_pair.ensures))
