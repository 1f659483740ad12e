use Rattle.std.proofs.Common.{sym, ◌^◌, ◌/◌, arith}
use Rattle.pb_packed.proofs.Shifts.{masked, ones}
use Rattle.pb_packed.proofs.Above.{none_above}
use Rattle.pb_packed.proofs.bits.bits_of_word.Goals as goal

pub returns-then-at-lt64 : goal.returns-then-at-lt64
returns-then-at-lt64 c = masked (c.args.word / 2 ^ c.args.at) c.args.len _ (ones c.args.len c.requires.short)

pub returns-else-at-lt64 : goal.returns-else-at-lt64
returns-else-at-lt64 c = sym (none_above c.args.word 64 c.args.at c.args.len (omega arith) c.if-at-lt64.false)
