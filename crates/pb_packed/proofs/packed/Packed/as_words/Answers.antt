use Rattle.std.proofs.Common.{◌*◌, ◌^◌, ◌<◌, subst, arith}
use Rattle.pb_packed.specs.Forms.{IsSmallest}
use Rattle.pb_packed.specs.declared.packed.Form.TheVariants.{Word}
use Rattle.pb_packed.proofs.Above.{power_le}
use Rattle.pb_packed.proofs.packed.Packed.as_words.Goals as goal

pub returns-in-Word-clause-small : goal.returns-in-Word-clause-small
returns-in-Word-clause-small g c =
    let small : c.in-Word.word < 2 ^ 64 = subst IsSmallest c.in-Word.is c.self.invariant in
    let grown = power_le 64 (64 * g.row.W) (omega (arith, c.requires)) in
    omega (arith, small, grown, c.of_word.ensures)
