use Rattle.std.proofs.Common.{◌≡◌, replicate, []}
use Rattle.pb_estimate.proofs.relaxed.Users.none.Given as goal

abbrev pub invariant-loop-atom : goal.invariant-loop-atom
invariant-loop-atom l = l.lists.items ≡ replicate l._atom []
