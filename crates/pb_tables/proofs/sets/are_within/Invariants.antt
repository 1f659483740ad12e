use Rattle.std.proofs.Common.{◌≡◌, ◌<◌, ℕ, get_or, bit_and}
use Rattle.pb_tables.proofs.sets.are_within.Given as goal

abbrev pub invariant-loop-i : goal.invariant-loop-i
invariant-loop-i l = (k : ℕ) → k < l.i → bit_and (get_or l.small k 0) (get_or l.large k 0) ≡ get_or l.small k 0
