use Rattle.std.proofs.Common.{ℕ, get_or, bit_and, refl, ap, ◌∙◌, arith}
use Rattle.std.proofs.lemmas.Bool.{false≢true}
use Rattle.pb_tables.proofs.Words.{from_words, to_words}
use Rattle.pb_tables.proofs.sets.are_within.Goals as goal

pub returns-then-small-i : goal.returns-then-small-i
returns-then-small-i c = (
  λ e. absurd (false≢true e),
  λ held. absurd (c.if-small-i.true (ap (λ (w : ℕ). bit_and (get_or c.args.small.now c.loop-i.i 0) w) c.word_at-held.ensures ∙ to_words c.args.small.now c.args.large.now c.requires.small c.requires.large held c.loop-i.i)),
)

pub returns : goal.returns
returns c = (
  λ e. from_words c.args.small.now c.args.large.now c.requires.small c.requires.large (λ k less. c.loop-i.invariant k (omega (arith, less, c.loop-i-test.false))),
  λ held. refl,
)
