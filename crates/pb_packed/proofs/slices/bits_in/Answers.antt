use Rattle.std.proofs.Common.{◌+◌, ◌*◌, ◌/◌, ◌%◌, ◌∙◌, ◌^◌, ap, refl, length, get_or, arith}
use Rattle.pb_packed.proofs.WordLists.{field_in_word, field_in_pair}
use Rattle.pb_packed.proofs.slices.bits_in.Goals as goal

pub returns-then-shift-len-le64 : goal.returns-then-shift-len-le64
returns-then-shift-len-le64 c =
    c.bits_of_word.ensures
    ∙ field_in_word (length c.args.words.now) c.args.words.now (c.args.at / 64) (c.args.at % 64) c.args.len c.args.at c.requires.words (omega arith) (omega arith) (omega arith)

pub returns : goal.returns
returns c =
    c.bits_of_pair.ensures
    ∙ field_in_pair (length c.args.words.now) c.args.words.now (c.args.at / 64) (c.args.at / 64 + 1) (c.args.at % 64) c.args.len c.args.at
    (c.from.result * 2 ^ 64 + c.from-2.result) c.requires.words (omega arith) refl (omega arith) (omega arith)
    (ap (λ n. n * 2 ^ 64 + c.from-2.result) c.from.ensures ∙ ap (λ n. get_or c.args.words.now (c.args.at / 64 + 1) 0 * 2 ^ 64 + n) c.from-2.ensures)
