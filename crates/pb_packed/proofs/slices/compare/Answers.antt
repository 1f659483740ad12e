use Rattle.std.proofs.Common.{◌-◌, length, sym, arith}
use Rattle.pb_packed.proofs.Comparing.{below, is_less, is_greater}
use Rattle.pb_packed.proofs.slices.compare.Goals as goal

pub returns-then-words-above : goal.returns-then-words-above
returns-then-words-above c =
    is_less _ _ (
    below (length c.args.words.now) (c.loop-above.above - 1) c.loop-above.above c.args.words.now c.args.other.now c.requires.words c.requires.other
    (omega arith) (omega arith) (omega arith) c.loop-above.invariant.same c.if-words-above.true
    )

pub returns-then-other-above : goal.returns-then-other-above
returns-then-other-above c =
    is_greater _ _ (
    below (length c.args.words.now) (c.loop-above.above - 1) c.loop-above.above c.args.other.now c.args.words.now c.requires.other c.requires.words
    (omega arith) (omega arith) (omega arith) (sym c.loop-above.invariant.same) c.if-other-above.true
    )
