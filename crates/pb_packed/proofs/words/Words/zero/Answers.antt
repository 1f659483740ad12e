use Rattle.pb_packed.proofs.WordLists.{zeros_are_words, number_of_zeros}
use Rattle.pb_packed.proofs.words.Words.zero.Goals as goal

pub invariant_of-result : goal.invariant_of-result
invariant_of-result g c = zeros_are_words g.row.W

pub returns : goal.returns
returns g c = number_of_zeros g.row.W
