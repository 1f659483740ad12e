use Rattle.std.proofs.Common.{rules, sym}
use Rattle.std.proofs.lemmas.List.{take_rest}
use Rattle.pb_grid.proofs.Parting.{none_behind, word_first, word_alone}
use Rattle.pb_grid.proofs.words.split_word.Goals as goal

pub returns-in_default-clause-none : goal.returns-in_default-clause-none
returns-in_default-clause-none c = none_behind c.args.line.now (search rules)

pub returns-in-Some-blank_at-clause-some : goal.returns-in-Some-blank_at-clause-some
returns-in-Some-blank_at-clause-some c =
    simp take_rest (word_first c.args.line.now c.in-Some.start c.in-Some-blank_at.end (sym c.in-Some.ensures) (simp take_rest at (sym c.in-Some-blank_at.ensures)))

pub returns-in-None-clause-some : goal.returns-in-None-clause-some
returns-in-None-clause-some c = simp take_rest (word_alone c.args.line.now c.in-Some.start (sym c.in-Some.ensures) (simp take_rest at (sym c.in-None.ensures)))
