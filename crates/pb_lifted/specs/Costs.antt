-- What actions cost (action costs by `total-cost`: Fox and Long, PDDL2.1: an extension to PDDL for
-- expressing temporal planning domains, 2003), and the places of faults in what the texts say of
-- costs.
use Rattle.std.specs.Prelude.{ℕ, Bool, not, nat_lt, nat_eq, List, [], ◌∷◌, flat_map, Option, Some, None}
use Rattle.std.specs.List.{slice_get}
use Rattle.pb_pddl.specs.declared.tree.Cost.{Cost}
use Rattle.pb_pddl.specs.declared.tree.Name.{Name}
use Rattle.pb_pddl.specs.declared.tree.Action.{Action}
use Rattle.pb_pddl.specs.declared.tree.Domain.{Domain}
use Rattle.pb_pddl.specs.declared.tree.Problem.{Problem}
use Rattle.pb_lifted.specs.Names.{fault_if}

-- the number of an action's only increase; an action without one adds nothing
abbrev pub increase_of : List Cost → ℕ
increase_of [] = 0
increase_of (increase ∷ later) = increase.number

abbrev pub cost_with : (metric : Option ℕ) → Action → ℕ
cost_with None action = 1
cost_with (Some at) action = increase_of action.costs

-- With a metric an action costs the number of its increase, and without one it costs 1.
abbrev pub cost_of : Problem → Action → ℕ
cost_of problem action = cost_with problem.metric action

-- what the action at a place costs; there is none after the last, and it costs nothing
abbrev pub cost_if : Problem → Option Action → ℕ
cost_if problem None = 0
cost_if problem (Some action) = cost_of problem action

-- what action i of the domain costs
abbrev pub cost_at : Domain → Problem → ℕ → ℕ
cost_at domain problem i = cost_if problem (slice_get domain.actions i)

-- ---- faults

-- `total-cost` if the domain declares none
abbrev pub undeclared : (has_cost : Bool) → List Cost → List ℕ
undeclared has_cost costs = flat_map (λ c. fault_if (not has_cost) c.function) costs

abbrev pub undeclared_metric : (has_cost : Bool) → (metric : Option ℕ) → List ℕ
undeclared_metric has_cost None = []
undeclared_metric has_cost (Some at) = fault_if (not has_cost) at

-- each `increase` or `=` except the first
abbrev pub costs_again : List Cost → List ℕ
costs_again [] = []
costs_again (first ∷ later) = flat_map (λ c. c.at ∷ []) later

-- the numbers over the greatest that may be
abbrev pub too_great : (most : ℕ) → List Cost → List ℕ
too_great most costs = flat_map (λ c. fault_if (nat_lt most c.number) c.number_at) costs

-- the name of an action without an increase, or the number 0 of one
abbrev pub zero_increase : Name → List Cost → List ℕ
zero_increase name [] = name.at ∷ []
zero_increase name (increase ∷ later) = fault_if (nat_eq increase.number 0) increase.number_at

-- the same if there is a metric
abbrev pub zero_cost : (metric : Option ℕ) → Action → List ℕ
zero_cost None action = []
zero_cost (Some at) action = zero_increase action.name action.costs
