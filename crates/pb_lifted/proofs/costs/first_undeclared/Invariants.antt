use Rattle.std.proofs.Common.{◌≡◌, drop}
use Rattle.pb_lifted.specs.Names.{earliest}
use Rattle.pb_lifted.specs.Costs.{undeclared}
use Rattle.pb_lifted.proofs.costs.first_undeclared.Given as goal

abbrev pub invariant-loop-cost : goal.invariant-loop-cost
invariant-loop-cost l = earliest l.found (undeclared l.has_cost (drop l.cost-index l.costs)) ≡ earliest l.fn.first (undeclared l.has_cost l.costs)
