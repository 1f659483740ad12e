use Rattle.std.proofs.Common.{length, sym}
use Rattle.pb_packed.proofs.Comparing.{differ}
use Rattle.pb_packed.proofs.slices.same.Goals as goal

pub returns-then-words-i : goal.returns-then-words-i
returns-then-words-i c = sym (differ (length c.args.words.now) c.loop-i.i c.args.words.now c.args.other.now c.requires.words c.requires.other c.if-words-i.true)
