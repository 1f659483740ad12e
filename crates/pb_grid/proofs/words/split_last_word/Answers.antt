use Rattle.std.proofs.lemmas.List.{take_rest}
use Rattle.pb_grid.proofs.Parting.{none_before, word_last, word_only}
use Rattle.pb_grid.proofs.words.split_last_word.Goals as goal

pub returns-in_default-clause-none : goal.returns-in_default-clause-none
returns-in_default-clause-none c = none_before c.args.line.now c.in_default.ensures.none

pub returns-in-Some-last_blank_at-clause-some : goal.returns-in-Some-last_blank_at-clause-some
returns-in-Some-last_blank_at-clause-some c = simp take_rest (word_last c.args.line.now c.in-Some.last c.in-Some-last_blank_at.blank c.in-Some.ensures.some c.in-Some-last_blank_at.ensures.some)

pub returns-in-None-clause-some : goal.returns-in-None-clause-some
returns-in-None-clause-some c = word_only c.args.line.now c.in-Some.last c.in-Some.ensures.some c.in-None.ensures.none
