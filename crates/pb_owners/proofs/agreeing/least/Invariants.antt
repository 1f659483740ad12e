use Rattle.std.proofs.Common.{◌≡◌}
use Rattle.pb_hashed.specs.Mailed.{least_of}
use Rattle.pb_owners.specs.Shares.{seat_at}
use Rattle.pb_owners.proofs.agreeing.least.Given as goal

abbrev pub invariant-loop-at : goal.invariant-loop-at
invariant-loop-at l = l.least ≡ least_of l.at (seat_at l.seats)
