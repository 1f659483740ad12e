use Rattle.std.proofs.Common.{ap, reverse, arith}
use Rattle.pb_grid.proofs.Chosen.{fewer, nine}
use Rattle.pb_grid.proofs.scenario.number_words.Goals as goal

pub returns-in_default-clause-none : goal.returns-in_default-clause-none
returns-in_default-clause-none c = rw (ap reverse c.in_default.ensures.none) (fewer _ (omega arith))

pub returns-in_default-split_last_word-clause-none : goal.returns-in_default-split_last_word-clause-none
returns-in_default-split_last_word-clause-none c = rw (c.in-Some.ensures.some, ap reverse c.in_default-split_last_word.ensures.none) (fewer _ (omega arith))

pub returns-in_default-split_last_word-2-clause-none : goal.returns-in_default-split_last_word-2-clause-none
returns-in_default-split_last_word-2-clause-none c = rw (c.in-Some.ensures.some, c.in-Some-split_last_word.ensures.some, ap reverse c.in_default-split_last_word-2.ensures.none) (fewer _ (omega arith))

pub returns-in_default-split_last_word-3-clause-none : goal.returns-in_default-split_last_word-3-clause-none
returns-in_default-split_last_word-3-clause-none c = rw (c.in-Some.ensures.some, c.in-Some-split_last_word.ensures.some, c.in-Some-split_last_word-2.ensures.some, ap reverse c.in_default-split_last_word-3.ensures.none) (fewer _ (omega arith))

pub returns-in_default-split_last_word-4-clause-none : goal.returns-in_default-split_last_word-4-clause-none
returns-in_default-split_last_word-4-clause-none c = rw (c.in-Some.ensures.some, c.in-Some-split_last_word.ensures.some, c.in-Some-split_last_word-2.ensures.some, c.in-Some-split_last_word-3.ensures.some, ap reverse c.in_default-split_last_word-4.ensures.none) (fewer _ (omega arith))

pub returns-in_default-split_last_word-5-clause-none : goal.returns-in_default-split_last_word-5-clause-none
returns-in_default-split_last_word-5-clause-none c = rw (c.in-Some.ensures.some, c.in-Some-split_last_word.ensures.some, c.in-Some-split_last_word-2.ensures.some, c.in-Some-split_last_word-3.ensures.some, c.in-Some-split_last_word-4.ensures.some, ap reverse c.in_default-split_last_word-5.ensures.none) (fewer _ (omega arith))

pub returns-in_default-split_last_word-6-clause-none : goal.returns-in_default-split_last_word-6-clause-none
returns-in_default-split_last_word-6-clause-none c = rw (c.in-Some.ensures.some, c.in-Some-split_last_word.ensures.some, c.in-Some-split_last_word-2.ensures.some, c.in-Some-split_last_word-3.ensures.some, c.in-Some-split_last_word-4.ensures.some, c.in-Some-split_last_word-5.ensures.some, ap reverse c.in_default-split_last_word-6.ensures.none) (fewer _ (omega arith))

pub returns-in_default-split_last_word-7-clause-none : goal.returns-in_default-split_last_word-7-clause-none
returns-in_default-split_last_word-7-clause-none c = rw (c.in-Some.ensures.some, c.in-Some-split_last_word.ensures.some, c.in-Some-split_last_word-2.ensures.some, c.in-Some-split_last_word-3.ensures.some, c.in-Some-split_last_word-4.ensures.some, c.in-Some-split_last_word-5.ensures.some, c.in-Some-split_last_word-6.ensures.some, ap reverse c.in_default-split_last_word-7.ensures.none) (fewer _ (omega arith))

pub returns-in_default-split_last_word-8-clause-none : goal.returns-in_default-split_last_word-8-clause-none
returns-in_default-split_last_word-8-clause-none c = rw (c.in-Some.ensures.some, c.in-Some-split_last_word.ensures.some, c.in-Some-split_last_word-2.ensures.some, c.in-Some-split_last_word-3.ensures.some, c.in-Some-split_last_word-4.ensures.some, c.in-Some-split_last_word-5.ensures.some, c.in-Some-split_last_word-6.ensures.some, c.in-Some-split_last_word-7.ensures.some, ap reverse c.in_default-split_last_word-8.ensures.none) (fewer _ (omega arith))

pub returns-clause-some : goal.returns-clause-some
returns-clause-some c = let h = c in rw (c.in-Some.ensures.some, c.in-Some-split_last_word.ensures.some, c.in-Some-split_last_word-2.ensures.some, c.in-Some-split_last_word-3.ensures.some, c.in-Some-split_last_word-4.ensures.some, c.in-Some-split_last_word-5.ensures.some, c.in-Some-split_last_word-6.ensures.some, c.in-Some-split_last_word-7.ensures.some, c.in-Some-split_last_word-8.ensures.some) (nine _ _ _ _ _ _ _ _ _ _)
