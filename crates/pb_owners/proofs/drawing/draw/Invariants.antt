use Rattle.std.proofs.Common.{◌≡◌, ◌+◌}
use Rattle.pb_hashed.specs.Laws.{sum_below}
use Rattle.pb_owners.specs.Seats.{quota_at}
use Rattle.pb_owners.specs.Rounds.{IsDrawn}
use Rattle.pb_owners.proofs.Pairs.{Pairs}
use Rattle.pb_owners.proofs.drawing.draw.Given as goal

abbrev pub invariant-loop-at : goal.invariant-loop-at
invariant-loop-at l = record {
  pairs : Pairs l.at (IsDrawn l.lot l.left l.seats) l.fn.seats l.seats;
  sum : sum_below l.at (quota_at l.seats) + l.rest ≡ l.left;
}
