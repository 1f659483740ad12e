use Rattle.pb_owners.specs.Passing.{IsSplitting}
use Rattle.pb_owners.proofs.Pairs.{Pairs}
use Rattle.pb_owners.proofs.Loops.{GivenFrom}
use Rattle.pb_owners.proofs.seating.give_passes.Given as goal

abbrev pub invariant-loop-at : goal.invariant-loop-at
invariant-loop-at g l = record {
  pairs : Pairs l.at (GivenFrom l.post) l.fn.seats l.seats;
  splitting : IsSplitting l.post l.at l.first;
}
