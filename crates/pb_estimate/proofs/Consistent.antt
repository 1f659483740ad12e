-- An estimate that no step lowers by more than its cost, and that is 0 at goals, is admissible.
use Rattle.std.proofs.Common.{◌≡◌, ℕ, ◌+◌, ◌≤◌, IsTrue, List, [], ◌∷◌, subst, arith}
use Rattle.pb_model.specs.Space.{Space, Steps}
use Rattle.pb_model.specs.Plan.{Walk}

module _ (space : Space) (estimate : ℕ → ℕ)
    (step_costs : (from action to cost : ℕ) → Steps space from action to cost → estimate from ≤ cost + estimate to)
    (goal_is_zero : (state cost : ℕ) → IsTrue (space.is_goal state) → estimate state ≤ cost) where
  along : (here there first rest cost : ℕ) → here ≤ first + there → there ≤ rest → cost ≡ first + rest → here ≤ cost
  along here there first rest cost one others sum = omega arith

  pub no_walk_is_cheaper : (state : ℕ) (actions : List ℕ) (cost goal : ℕ) → Walk space state actions cost goal → IsTrue (space.is_goal goal) → estimate state ≤ cost
  no_walk_is_cheaper state [] cost goal walk e = goal_is_zero state cost (subst (λ s. IsTrue (space.is_goal s)) walk.1 e)
  no_walk_is_cheaper state (action ∷ actions) cost goal (next, first, rest, step, walk, sum) e =
      along (estimate state) (estimate next) first rest cost (step_costs state action next first step) (no_walk_is_cheaper next actions rest goal walk e) sum
