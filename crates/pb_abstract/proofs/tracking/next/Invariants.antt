use Rattle.pb_abstract.proofs.Ranking.{IsBest}
use Rattle.pb_abstract.proofs.tracking.next.Given as goal

abbrev pub invariant-loop-atom : goal.invariant-loop-atom
invariant-loop-atom l = IsBest l.counts l.tracked l.atom l.best
