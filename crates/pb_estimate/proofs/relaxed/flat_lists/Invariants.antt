use Rattle.std.proofs.Common.{◌≡◌, take}
use Rattle.pb_estimate.proofs.relaxed.flat_lists.Given as goal

abbrev pub invariant-loop-list : goal.invariant-loop-list
invariant-loop-list l = l.flat ≡ take l.list-index l.lists
