use Rattle.std.proofs.Common.{◌≡◌, ◌-◌, ◌+◌, ◌*◌, length, drop, slice_set, refl, ap, ◌∙◌, arith}
use Rattle.std.proofs.lemmas.List.{length-set}
use Rattle.pb_packed.specs.Words.{number_of}
use Rattle.pb_packed.proofs.Callers.{set_words}
use Rattle.pb_table_lines.specs.Words.{hex_after}
use Rattle.pb_table_lines.proofs.Sixteens.{sixteen_read, sixteen_fails, all_read}
use Rattle.pb_table_lines.proofs.words.read_sixteens.Goals as goal

pub returns-in-None-clause-state : goal.returns-in-None-clause-state
returns-in-None-clause-state c =
    let count = length c.args.words.now in
    let left = count - c.loop-i.i in
    sixteen_fails _ left (length c.args.word.now - 16 * left) c.args.word.now c.loop-i.words (omega (arith, c.loop-i-test.true)) (omega (arith, c.loop-i-test.true, c.requires.long, c.loop-i.auto.i)) refl
    c.in-None.ensures.number c.loop-i.invariant.so_far

pub loop-i-preserved : goal.loop-i-preserved
loop-i-preserved c =
    let count = length c.args.words.now in
    let left = count - c.loop-i.i in
    let word = c.args.word.now in
    let words = c.loop-i.words in
    let number = c.in-Some.number in
    let next : left - 1 ≡ count - (c.loop-i.i + 1) = omega arith in
    record {
      words = set_words count (left - 1) number words c.loop-i.invariant.words c.in-Some.ensures.small;
      long = length-set words (left - 1) number ∙ c.loop-i.invariant.long;
      so_far = sixteen_read _ left (length word - 16 * left) number word words (omega (arith, c.loop-i-test.true)) (omega (arith, c.loop-i.invariant.long)) (omega (arith, c.loop-i-test.true, c.requires.long, c.loop-i.auto.i)) refl
          c.in-Some.ensures.number c.loop-i.invariant.so_far
          ∙ ap (λ k. hex_after (number_of (drop k (slice_set words (left - 1) number))) (drop (length word - 16 * k) word)) next;
    }

pub returns-clause-state : goal.returns-clause-state
returns-clause-state c =
    let left = length c.args.words.now - c.loop-i.i in
    all_read _ left c.args.word.now c.loop-i.words (omega (arith, c.loop-i-test.false)) c.loop-i.invariant.so_far
