use Rattle.std.proofs.Common.{◌≡◌, take}
use Rattle.pb_lifted.specs.Tree.{followed}
use Rattle.pb_lifted.proofs.climb.follow.Given as goal

abbrev pub invariant-loop-place : goal.invariant-loop-place
invariant-loop-place l = l.both.items ≡ followed (take l.place-index l.first) l.second
