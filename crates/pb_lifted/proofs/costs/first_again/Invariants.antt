use Rattle.std.proofs.Common.{◌≡◌, ◌∷◌, [], drop, flat_map}
use Rattle.pb_lifted.specs.Names.{earliest}
use Rattle.pb_lifted.proofs.costs.first_again.Given as goal

abbrev pub invariant-loop-cost : goal.invariant-loop-cost
invariant-loop-cost l = earliest l.found (flat_map (λ c. c.at ∷ []) (drop l.cost-index l.later)) ≡ earliest l.fn.first (flat_map (λ c. c.at ∷ []) l.later)
