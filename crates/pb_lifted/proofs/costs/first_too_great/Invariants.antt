use Rattle.std.proofs.Common.{◌≡◌, drop}
use Rattle.pb_lifted.specs.Names.{earliest}
use Rattle.pb_lifted.specs.Costs.{too_great}
use Rattle.pb_lifted.proofs.costs.first_too_great.Given as goal

abbrev pub invariant-loop-cost : goal.invariant-loop-cost
invariant-loop-cost l = earliest l.found (too_great l.most (drop l.cost-index l.costs)) ≡ earliest l.fn.first (too_great l.most l.costs)
