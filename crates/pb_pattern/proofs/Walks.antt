-- Least costs of walks: there is one, and stable costs of walks are least.
use Rattle.std.proofs.Common.{◌≡◌, ℕ, ◌+◌, ◌≤◌, true, List, [], ◌∷◌, Option, None, Some, refl, sym, ap, ◌∙◌, subst, arith}
use Rattle.pb_model.specs.declared.row.Estimate.TheVariants.{Cost, Dead}
use Rattle.pb_model.specs.Space.{Space, Steps, IsProper}
use Rattle.pb_model.specs.Plan.{Walk}
use Rattle.pb_pattern.specs.Least.{Reaches, IsLeastCost, estimate_as, AreOfWalks, AreStable}
use Rattle.pb_pattern.specs.Laws.{LeastCostsAreUnique, StableCostsAreLeast}
use Rattle.pb_pattern.proofs.Enough.{Within, known, within_more}

pub least_costs_are_unique : LeastCostsAreUnique
least_costs_are_unique space state (Cost n) (Cost m) h k =
    let le : n ≤ m = h.1 m k.0 in
    let ge : m ≤ n = k.1 n h.0 in
    ap (λ (c : ℕ). Cost c) (let e : n ≡ m = omega arith in e)
least_costs_are_unique space state (Cost n) Dead h k = absurd (k n h.0)
least_costs_are_unique space state Dead (Cost m) h k = absurd (h m k.0)
least_costs_are_unique space state Dead Dead h k = refl

-- a walk from a state ends at one
pub ends_at_state : (space : Space) (greatest_cost : ℕ) → IsProper space greatest_cost → (actions : List ℕ) (from cost to : ℕ) → space.is_state from ≡ true → Walk space from actions cost to → space.is_state to ≡ true
ends_at_state space greatest_cost proper [] from cost to is walk = ap space.is_state walk.1 ∙ is
ends_at_state space greatest_cost proper (action ∷ actions) from cost to is walk =
    ends_at_state space greatest_cost proper actions walk.0 walk.2 to (proper.to_state from action walk.0 walk.1 walk.3) walk.4

-- a step before a walk to a goal
pub step_reaches : (space : Space) (from action to price rest : ℕ) → Steps space from action to price → Reaches space to rest → Reaches space from (price + rest)
step_reaches space from action to price rest step way = (action ∷ way.0, way.1, (to, price, rest, step, way.2, refl), way.3)

module _ (space : Space) (greatest_cost : ℕ) (costs : ℕ → Option ℕ) (proper : IsProper space greatest_cost) (walks : AreOfWalks space costs) (stable : AreStable space costs) where
  -- no walk costs less
  pub bounds : (actions : List ℕ) (from cost goal : ℕ) → space.is_state from ≡ true → Walk space from actions cost goal → space.is_goal goal ≡ true → Within (costs from) cost
  bounds [] from cost goal is walk reached =
      subst (λ o. Within o cost) (sym (stable.goals from is (sym (ap space.is_goal walk.1) ∙ reached))) (omega arith)
  bounds (action ∷ actions) from cost goal is (next, first, rest, step, walk, sum) reached =
      let left = known (costs next) rest (bounds actions next rest goal (proper.to_state from action next first step) walk reached) in
      within_more (costs from) (first + left.0) cost (omega (arith, left.2, sum)) (stable.steps from action next first left.0 step left.1)

  least : (state : ℕ) → space.is_state state ≡ true → IsLeastCost space state (estimate_as (costs state))
  least state is = go (costs state) refl where
    go : (cost : Option ℕ) → costs state ≡ cost → IsLeastCost space state (estimate_as cost)
    go None e = λ cost way. subst (λ o. Within o cost) e (bounds way.0 state cost way.1 is way.2 way.3)
    go (Some n) e = (walks state n e, λ cost way. subst (λ o. Within o cost) e (bounds way.0 state cost way.1 is way.2 way.3))

pub stable_costs_are_least : StableCostsAreLeast
stable_costs_are_least space greatest_cost costs proper walks stable state is = least space greatest_cost costs proper walks stable state is
