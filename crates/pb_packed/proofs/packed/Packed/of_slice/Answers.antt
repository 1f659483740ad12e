use Rattle.std.proofs.Common.{lit<, ◌^◌, ◌*◌, ◌<◌, ◌≤◌, ℕ, List, length, arith}
use Rattle.std.proofs.Math.ListN.{get_or-eq_default}
use Rattle.pb_packed.specs.Words.{number_of, AreWords}
use Rattle.pb_packed.proofs.Zeros.{fits_below}
use Rattle.pb_packed.proofs.packed.Packed.of_slice.Goals as goal

small : (count : ℕ) (words : List ℕ) → AreWords (length words) words → length words ≤ count → number_of words < 2 ^ (64 * count)
small count words are few = fits_below (length words) count words are (λ k above. get_or-eq_default words 0 {n = k} (omega (arith, above, few)))

pub of_slice-requires : goal.of_slice-requires
of_slice-requires c = (lit< tt, (c.requires.words, small 4 c.args.words.now c.requires.words c.if-words-le4.true))

pub of_slice-requires-else-words-le4 : goal.of_slice-requires-else-words-le4
of_slice-requires-else-words-le4 c = (lit< tt, (c.requires.words, small 16 c.args.words.now c.requires.words c.requires.few))
