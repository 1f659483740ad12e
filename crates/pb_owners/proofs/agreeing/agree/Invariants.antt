use Rattle.pb_owners.specs.Rounds.{HasIncumbent}
use Rattle.pb_owners.proofs.Pairs.{Pairs}
use Rattle.pb_owners.proofs.agreeing.agree.Given as goal

abbrev pub invariant-loop-at : goal.invariant-loop-at
invariant-loop-at l = Pairs l.at (HasIncumbent l.least) l.fn.seats l.seats
