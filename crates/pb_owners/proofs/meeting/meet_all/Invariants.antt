use Rattle.pb_owners.specs.Passing.{IsWithoutPass}
use Rattle.pb_owners.proofs.Pairs.{Pairs}
use Rattle.pb_owners.proofs.Loops.{HasMetBelow}
use Rattle.pb_owners.proofs.meeting.meet_all.Given as goal

abbrev pub invariant-loop-at : goal.invariant-loop-at
invariant-loop-at g l = record {
  pairs : Pairs l.at (λ i. IsWithoutPass) l.fn.seats l.seats;
  met : HasMetBelow l.post l.fn.seats l.at l.pass;
}
