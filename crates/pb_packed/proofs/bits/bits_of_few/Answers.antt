use Rattle.std.proofs.Common.{sym, ◌∙◌, arith}
use Rattle.pb_packed.proofs.Above.{none_above, cut_off}
use Rattle.pb_packed.proofs.bits.bits_of_few.Goals as goal

pub returns-then-at-ge256 : goal.returns-then-at-ge256
returns-then-at-ge256 c = sym (none_above c.args.words.now 256 c.args.at c.args.len c.requires.small c.if-at-ge256.true)

pub returns : goal.returns
returns c = c.bits.ensures ∙ cut_off c.args.words.now 256 c.args.at c.args.len c.min.result c.requires.small (omega arith) c.min.ensures
