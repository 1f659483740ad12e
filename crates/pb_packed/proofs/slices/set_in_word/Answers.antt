use Rattle.std.proofs.Common.{◌+◌, ◌*◌, length, refl}
use Rattle.pb_packed.proofs.WordLists.{replaced_in, set_words}
use Rattle.pb_packed.proofs.slices.set_in_word.Goals as goal

pub returns-clause-number : goal.returns-clause-number
returns-clause-number c =
    replaced_in (length c.args.words.now) c.args.words.now c.args.first c.args.at c.args.len (64 * c.args.first + c.args.at) c.args.value c.with_bits_of_word.result
    c.requires.words c.requires.first refl c.requires.within c.with_bits_of_word.ensures

pub returns-clause-words : goal.returns-clause-words
returns-clause-words c = set_words (length c.args.words.now) c.args.first c.with_bits_of_word.result c.args.words.now c.requires.words c.with_bits_of_word.type_inv
