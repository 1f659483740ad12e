use Rattle.std.proofs.Common.{All, take}
use Rattle.pb_estimate.proofs.Least.{IsFound, IsFrom}
use Rattle.pb_estimate.proofs.exploration.least.Given as goal

abbrev pub invariant-loop-atom : goal.invariant-loop-atom
invariant-loop-atom l = record {
  found : IsFound l.costs l.best l.found;
  least : All (IsFrom l.costs l.best) (take l.atom-index l.atoms);
}
