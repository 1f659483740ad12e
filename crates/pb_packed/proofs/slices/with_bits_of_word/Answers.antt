use Rattle.std.proofs.Common.{arith}
use Rattle.pb_packed.proofs.Shifts.{replaced_is, replaced_below}
use Rattle.pb_packed.proofs.slices.with_bits_of_word.Goals as goal

pub overflow_add-result : goal.overflow_add-result
overflow_add-result c =
    let is = replaced_is c.args.word 64 c.args.at c.args.len c.args.value c.bits_of_word.result (omega arith) c.requires.within c.requires.fits c.bits_of_word.ensures in
    omega (arith, is, replaced_below c.args.word 64 c.args.at c.args.len c.args.value (omega arith) c.requires.within c.requires.fits)

pub returns : goal.returns
returns c = replaced_is c.args.word 64 c.args.at c.args.len c.args.value c.bits_of_word.result (omega arith) c.requires.within c.requires.fits c.bits_of_word.ensures
