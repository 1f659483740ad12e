-- The laws of this crate. Each is proved, as the contract of the public function that has its name.
use Rattle.std.specs.Prelude.{◌≡◌, ℕ, ◌*◌, ◌^◌, ◌<◌, ◌≤◌, All, List, IsTrue, Option, length}
use Rattle.pb_model.specs.declared.row.Estimate.{Estimate}
use Rattle.pb_model.specs.declared.row.Estimate.TheVariants.{Cost}
use Rattle.pb_model.specs.Space.{Space, IsProper}
use Rattle.pb_model.specs.Guide.{IsAdmissible}
use Rattle.pb_task.specs.declared.parts.TaskParts.{TaskParts}
use Rattle.pb_task.specs.declared.parts.StripsParts.{StripsParts}
use Rattle.pb_task.specs.declared.parts.TilesParts.{TilesParts}
use Rattle.pb_task.specs.Tiles.{tiles_space, IsTiles}
use Rattle.pb_task.specs.Strips.{strips_space, IsStrips}
use Rattle.pb_task.specs.Parts.{space_of, IsTask}
use Rattle.pb_pattern.specs.Least.{IsLeastCost, least_cost, HasStatesBelow, estimate_as, AreOfWalks, AreStable}
use Rattle.pb_pattern.specs.Projection.{IsProjection, IsConsistent}
use Rattle.pb_pattern.specs.Projected.{placing_space, image_of_board, image_of_set, projected_strips}
use Rattle.pb_pattern.specs.Patterns.{tiles_value, strips_value, pattern_value}

-- A state has one least cost.
abbrev pub LeastCostsAreUnique : Type 0
LeastCostsAreUnique =
    (space : Space) (state : ℕ) (one other : Estimate) → IsLeastCost space state one
    → IsLeastCost space state other → one ≡ other

-- What is computed by rounds is the least cost of a walk to a goal, after as many rounds as there
-- are states.
abbrev pub RoundsGiveLeast : Type 0
RoundsGiveLeast =
    (space : Space) (greatest_cost states state : ℕ) → IsProper space greatest_cost
    → HasStatesBelow space states → IsTrue (space.is_state state)
    → IsLeastCost space state (least_cost space states state)

-- No least cost is greater than the cost of as many steps of 2^20 as there are states. So a table's
-- costs have 36 bits, and no sum of one and a step's cost leaves 64 bits.
abbrev pub LeastCostsAreSmall : Type 0
LeastCostsAreSmall =
    (space : Space) (states state cost : ℕ) → IsProper space (2 ^ 20) → HasStatesBelow space states
    → IsTrue (space.is_state state) → IsLeastCost space state (Cost cost) → cost ≤ 2 ^ 20 * states

-- Costs that are those of walks, and that no step makes cheaper, are least.
abbrev pub StableCostsAreLeast : Type 0
StableCostsAreLeast =
    (space : Space) (greatest_cost : ℕ) (costs : ℕ → Option ℕ) → IsProper space greatest_cost
    → AreOfWalks space costs → AreStable space costs → (state : ℕ) → IsTrue (space.is_state state)
    → IsLeastCost space state (estimate_as (costs state))

-- The least cost of an image is an admissible estimate of the state, and a consistent one.
abbrev pub ProjectionsAreAdmissible : Type 0
ProjectionsAreAdmissible =
    (space abstraction : Space) (greatest_cost : ℕ) (image : ℕ → ℕ) (least : ℕ → Estimate)
    → IsProper space greatest_cost → IsProjection space abstraction image
    → ((state : ℕ) → IsTrue (abstraction.is_state state)
    → IsLeastCost abstraction state (least state))
    → IsAdmissible space (λ state. least (image state))
    × IsConsistent space (λ state. least (image state))

-- Each step of STRIPS has its image at the same cost, for any list of atoms of the task.
abbrev pub StripsProject : Type 0
StripsProject =
    (strips : StripsParts) (tracked : List ℕ) → IsStrips strips
    → All (λ atom. atom < strips.atoms) tracked → length tracked ≤ 12
    → IsStrips (projected_strips strips tracked)
    × IsProjection (strips_space strips) (strips_space (projected_strips strips tracked))
    (image_of_set tracked)

-- Each slide has its image at the same cost.
abbrev pub TilesProject : Type 0
TilesProject =
    (tiles : TilesParts) (tracked : ℕ) → IsTiles tiles → tracked ≤ 3
    → IsProper (placing_space tiles tracked) 1
    × IsProjection (tiles_space tiles) (placing_space tiles tracked) (image_of_board tiles tracked)

-- The pattern value is the least cost of a walk of the projected task.
abbrev pub PatternValuesAreLeast : Type 0
PatternValuesAreLeast =
    ((tiles : TilesParts) (tracked state : ℕ) → IsTiles tiles → tracked ≤ 3
    → IsTrue ((tiles_space tiles).is_state state)
    → IsLeastCost (placing_space tiles tracked) (image_of_board tiles tracked state)
    (tiles_value tiles tracked state))
    × ((strips : StripsParts) (tracked : List ℕ) (state : ℕ) → IsStrips strips
    → All (λ atom. atom < strips.atoms) tracked → length tracked ≤ 12
    → IsTrue ((strips_space strips).is_state state)
    → IsLeastCost (strips_space (projected_strips strips tracked)) (image_of_set tracked state)
    (strips_value strips tracked state))

-- The pattern value is an admissible estimate, and a consistent one.
abbrev pub PatternsAreAdmissible : Type 0
PatternsAreAdmissible =
    (parts : TaskParts) (pattern : ℕ) → IsTask parts → pattern ≤ 12
    → IsAdmissible (space_of parts) (pattern_value parts pattern)
    × IsConsistent (space_of parts) (pattern_value parts pattern)
