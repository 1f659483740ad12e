use Rattle.std.proofs.Common.{◌-◌, ◌*◌, length, drop, slice_set, sym, ap, subst, ◌∙◌, arith}
use Rattle.std.proofs.lemmas.List.{length-set}
use Rattle.pb_packed.specs.Words.{number_of, AreWords}
use Rattle.pb_packed.proofs.Callers.{set_words}
use Rattle.pb_table_lines.specs.Words.{hex_after}
use Rattle.pb_table_lines.proofs.Sixteens.{first_read, first_fails}
use Rattle.pb_table_lines.proofs.words.read_digits.Goals as goal

pub read_sixteens-requires-clause-words : goal.read_sixteens-requires-clause-words
read_sixteens-requires-clause-words c =
    let count = length c.args.words.now in
    let words = slice_set c.args.words.now (count - 1) c.in-Some.number in
    subst (λ k. AreWords k words) (sym (length-set c.args.words.now (count - 1) c.in-Some.number)) (set_words count (count - 1) c.in-Some.number c.args.words.now c.requires.words c.in-Some.ensures.small)

pub returns-in-None-clause-state : goal.returns-in-None-clause-state
returns-in-None-clause-state c = first_fails (length c.args.word.now - 16 * (length c.args.words.now - 1)) c.args.word.now c.in-None.ensures.number

pub returns-in-Some-clause-state : goal.returns-in-Some-clause-state
returns-in-Some-clause-state c =
    let last = length c.args.words.now - 1 in
    let word = c.args.word.now in
    let words = slice_set c.args.words.now last c.in-Some.number in
    c.read_sixteens.ensures.state
    ∙ ap (λ k. hex_after (number_of (drop (k - 1) words)) (drop (length word - 16 * (k - 1)) word)) (length-set c.args.words.now last c.in-Some.number)
    ∙ first_read (length word - 16 * last) last c.in-Some.number word c.args.words.now (omega (arith, c.requires.some)) c.in-Some.ensures.number
