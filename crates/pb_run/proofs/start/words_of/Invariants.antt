use Rattle.std.proofs.Common.{◌≡◌, ◌++◌, drop}
use Rattle.std.specs.Vec.Iter.{into_iter_items, into_iter_len}
use Rattle.pb_run.proofs.start.words_of.Given as goal

abbrev pub invariant-words : goal.invariant-words
invariant-words l = drop 1 (into_iter_items l.fn.args) ≡ l.words.items ++ into_iter_items l.rest

abbrev pub decreases-words : goal.decreases-words
decreases-words l = into_iter_len l.rest
