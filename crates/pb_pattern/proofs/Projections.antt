-- The least cost of an image bounds the cost of each walk, since each walk has its image at the same cost.
use Rattle.std.proofs.Common.{◌≡◌, ℕ, ◌+◌, true, List, [], ◌∷◌, ap}
use Rattle.pb_model.specs.declared.row.Estimate.{Estimate}
use Rattle.pb_model.specs.declared.row.Estimate.TheVariants.{Cost, Dead}
use Rattle.pb_model.specs.Space.{Space, Steps, IsProper}
use Rattle.pb_model.specs.Plan.{Walk}
use Rattle.pb_model.specs.Guide.{IsLowerBound, IsAdmissible}
use Rattle.pb_pattern.specs.Least.{Reaches, IsLeastCost}
use Rattle.pb_pattern.specs.Projection.{IsProjection, IsWithinStep, IsConsistent}
use Rattle.pb_pattern.specs.Laws.{ProjectionsAreAdmissible}
use Rattle.pb_pattern.proofs.Walks.{ends_at_state, step_reaches}

-- what reaches a goal at a cost isn't estimated higher
pub bounded : (space : Space) (state : ℕ) (e : Estimate) → IsLeastCost space state e → (cost : ℕ) → Reaches space state cost → IsLowerBound e cost
bounded space state (Cost n) h cost way = h.1 cost way
bounded space state Dead h cost way = h cost way

module _ (space abstraction : Space) (greatest_cost : ℕ) (image : ℕ → ℕ) (least : ℕ → Estimate) (proper : IsProper space greatest_cost) (p : IsProjection space abstraction image)
    (is_least : (state : ℕ) → abstraction.is_state state ≡ true → IsLeastCost abstraction state (least state)) where
  image_walk : (actions : List ℕ) (from cost to : ℕ) → Walk space from actions cost to → (by : List ℕ) × Walk abstraction (image from) by cost (image to)
  image_walk [] from cost to walk = ([], (walk.0, ap image walk.1))
  image_walk (action ∷ actions) from cost to walk =
      let one = p.steps from action walk.0 walk.1 walk.3 in
      let rest = image_walk actions walk.0 walk.2 to walk.4 in
      (one.0 ∷ rest.0, (image walk.0, walk.1, walk.2, one.1, rest.1, walk.5))

  admissible : IsAdmissible space (λ state. least (image state))
  admissible state actions cost goal is walk reached =
      let there = image_walk actions state cost goal walk in
      bounded abstraction (image state) (least (image state)) (is_least (image state) (p.states state is)) cost
      (there.0, image goal, there.1, p.goals goal (ends_at_state space greatest_cost proper actions state cost goal is walk) reached)

  consistent : IsConsistent space (λ state. least (image state))
  consistent from action to cost step =
      let one = p.steps from action to cost step in
      go one.0 one.1 (least (image from)) (least (image to)) (is_least (image from) (p.states from (proper.from_state from action to cost step))) (is_least (image to) (p.states to (proper.to_state from action to cost step)))
    where
      go : (by : ℕ) → Steps abstraction (image from) by (image to) cost → (before after : Estimate) → IsLeastCost abstraction (image from) before → IsLeastCost abstraction (image to) after → IsWithinStep cost before after
      go by step (Cost n) (Cost m) h k = h.1 (cost + m) (step_reaches abstraction (image from) by (image to) cost m step k.0)
      go by step Dead (Cost m) h k = h (cost + m) (step_reaches abstraction (image from) by (image to) cost m step k.0)
      go by step (Cost n) Dead h k = tt
      go by step Dead Dead h k = tt

pub projections_are_admissible : ProjectionsAreAdmissible
projections_are_admissible space abstraction greatest_cost image least proper p is_least =
    (admissible space abstraction greatest_cost image least proper p is_least, consistent space abstraction greatest_cost image least proper p is_least)
