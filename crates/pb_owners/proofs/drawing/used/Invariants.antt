use Rattle.std.proofs.Common.{◌≡◌}
use Rattle.pb_hashed.specs.Laws.{sum_below}
use Rattle.pb_owners.specs.Seats.{used_at}
use Rattle.pb_owners.proofs.drawing.used.Given as goal

abbrev pub invariant-loop-at : goal.invariant-loop-at
invariant-loop-at l = l.used ≡ sum_below l.at (used_at l.seats)
