use Rattle.std.proofs.Common.{◌+◌, ◌*◌, ◌/◌, ◌%◌, ◌^◌, ◌∙◌, ap, get_or, slice_set, length, refl, arith}
use Rattle.std.proofs.lemmas.Nat.{div-add-mod'}
use Rattle.pb_packed.proofs.WordLists.{replaced_in_pair, set_words}
use Rattle.pb_packed.proofs.slices.set_in_pair.Goals as goal

pub returns-clause-number : goal.returns-clause-number
returns-clause-number c =
    replaced_in_pair (length c.args.words.now) c.args.words.now c.args.first (c.args.first + 1) c.args.at c.args.len (64 * c.args.first + c.args.at) c.args.value
    (c.from.result * 2 ^ 64 + c.from-2.result) c.with_bits_of_pair-new.result (c.with_bits_of_pair-new.result % 2 ^ 64) (c.with_bits_of_pair-new.result / 2 ^ 64)
    c.requires.words c.requires.first refl refl c.requires.within
    (ap (λ n. n * 2 ^ 64 + c.from-2.result) c.from.ensures ∙ ap (λ n. get_or c.args.words.now (c.args.first + 1) 0 * 2 ^ 64 + n) c.from-2.ensures)
    c.with_bits_of_pair-new.ensures (div-add-mod' c.with_bits_of_pair-new.result (2 ^ 64))

pub returns-clause-words : goal.returns-clause-words
returns-clause-words c =
    set_words (length c.args.words.now) (c.args.first + 1) (c.with_bits_of_pair-new.result / 2 ^ 64) (slice_set c.args.words.now c.args.first (c.with_bits_of_pair-new.result % 2 ^ 64))
    (set_words (length c.args.words.now) c.args.first (c.with_bits_of_pair-new.result % 2 ^ 64) c.args.words.now c.requires.words (omega arith))
    (omega (arith, c.with_bits_of_pair-new.type_inv))
