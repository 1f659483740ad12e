use Rattle.pb_owners.specs.Passing.{HasLooked}
use Rattle.pb_owners.proofs.Pairs.{Pairs}
use Rattle.pb_owners.proofs.together.with_letters.Given as goal

abbrev pub invariant-loop-at : goal.invariant-loop-at
invariant-loop-at g l = Pairs l.at (λ i. HasLooked l.post) l.fn.seats l.seats
