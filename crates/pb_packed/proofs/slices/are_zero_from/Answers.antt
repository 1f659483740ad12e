use Rattle.std.proofs.Common.{length, refl, arith}
use Rattle.std.proofs.lemmas.Bool.{false≢true}
use Rattle.pb_packed.proofs.Zeros.{above_are_zero, fits_below, zero_either}
use Rattle.pb_packed.proofs.slices.are_zero_from.Goals as goal

pub returns-then-words-i-ne0 : goal.returns-then-words-i-ne0
returns-then-words-i-ne0 c = (
  λ t. absurd (false≢true t),
  λ small. absurd (c.if-words-i-ne0.true (above_are_zero (length c.args.words.now) c.args.first c.loop-i.i c.args.words.now c.requires small (omega arith))),
)

pub returns : goal.returns
returns c = (
  λ t. fits_below (length c.args.words.now) c.args.first c.args.words.now c.requires (
      λ k le. zero_either c.args.words.now c.loop-i.i k (omega arith) (λ l. c.loop-i.invariant k le l)
      ),
  λ small. refl,
)
