-- Tables of costs. The images of a projected task have numbers, and a table has a cost for each.
use Rattle.std.specs.Prelude.{◌≡◌, ℕ, ◌+◌, ◌^◌, ◌<◌, ◌≤◌, Bool, false, IsTrue, List, length, Option, None, Some, slice_index_or, slice_set, if◌then◌else◌, nat_lt, ⊤}
use Rattle.pb_model.specs.declared.row.Estimate.{Estimate}
use Rattle.pb_model.specs.declared.row.Estimate.TheVariants.{Cost, Dead}
use Rattle.pb_model.specs.Space.{Space, Steps}
use Rattle.pb_pattern.specs.Least.{Reaches, IsLeastCost}

-- The cost of an image from which no walk to a goal is known. Each least cost is less: a walk of
-- 65,536 steps of 2^20 each costs 2^36.
abbrev pub unknown : ℕ
unknown = 2 ^ 62

abbrev pub cost_in : List ℕ → (image : ℕ) → ℕ
cost_in costs image = slice_index_or costs image (2 ^ 62)

-- the estimate that a cost of a table means
abbrev pub estimate_in : (cost : ℕ) → Estimate
estimate_in cost = if nat_lt cost (2 ^ 62) then Cost cost else Dead

-- the least costs of walks from so many images to a goal
pub record AreLeast (space : Space) (images : ℕ) (costs : List ℕ) : Type 0 where
  pub long : length costs ≡ images
  pub least : (image : ℕ) → IsTrue (space.is_state image)
      → IsLeastCost space image (estimate_in (cost_in costs image))

-- ---- how a table comes to be

-- Each known cost is that of some walk to a goal, and a goal costs nothing.
pub record IsTable (space : Space) (images : ℕ) (costs : List ℕ) : Type 0 where
  pub long : length costs ≡ images
  pub small : (image : ℕ) → cost_in costs image ≤ 2 ^ 62
  pub walks : (image : ℕ) → cost_in costs image < 2 ^ 62
      → Reaches space image (cost_in costs image)
  pub free : (image : ℕ) → IsTrue (space.is_state image) → IsTrue (space.is_goal image)
      → cost_in costs image ≤ 0

-- whether a step makes the image that it leaves cheaper
abbrev pub is_cheaper : List ℕ → (from : ℕ) → (step : Option (ℕ × ℕ)) → Bool
is_cheaper costs from None = false
is_cheaper costs from (Some step) =
    nat_lt (step.1 + cost_in costs step.0) (cost_in costs from)

-- the costs after a step from an image was looked at
abbrev pub costs_after : List ℕ → (from : ℕ) → (step : Option (ℕ × ℕ)) → List ℕ
costs_after costs from None = costs
costs_after costs from (Some step) =
    if nat_lt (step.1 + cost_in costs step.0) (cost_in costs from)
    then slice_set costs from (step.1 + cost_in costs step.0) else costs

-- What happens to a table when some steps are looked at, one after another. No image is dearer
-- afterwards. Each of these steps costs, with what its end cost before, no less than the image that
-- it leaves costs afterwards.
pub record Looks (space : Space) (images : ℕ) (At : (from action : ℕ) → Type 0)
    (old new : List ℕ) (changed : Bool) : Type 0 where
  pub table : IsTable space images new
  pub falls : (image : ℕ) → cost_in new image ≤ cost_in old image
  pub covers : (from action to price : ℕ) → At from action → Steps space from action to price
      → cost_in new from ≤ price + cost_in old to
  pub idle : changed ≡ false → new ≡ old

-- the steps by one action from one image
abbrev pub IsStepAt : (image number : ℕ) → (from action : ℕ) → Type 0
IsStepAt image number from action = (from ≡ image) × (action ≡ number)

-- the steps by one action from the images below a number
abbrev pub IsByOneBelow : (number count : ℕ) → (from action : ℕ) → Type 0
IsByOneBelow number count from action = (action ≡ number) × (from < count)

-- the steps by one action
abbrev pub IsByOne : (number : ℕ) → (from action : ℕ) → Type 0
IsByOne number from action = action ≡ number

-- the steps by the actions below a number
abbrev pub IsByBelow : (count : ℕ) → (from action : ℕ) → Type 0
IsByBelow count from action = action < count

-- the steps from one image by the actions below a number
abbrev pub IsFromBy : (image count : ℕ) → (from action : ℕ) → Type 0
IsFromBy image count from action = (from ≡ image) × (action < count)

-- the steps from one image
abbrev pub IsFrom : (image : ℕ) → (from action : ℕ) → Type 0
IsFrom image from action = from ≡ image

-- the steps from the images below a number
abbrev pub IsFromBelow : (count : ℕ) → (from action : ℕ) → Type 0
IsFromBelow count from action = from < count

-- all steps
abbrev pub IsAnyStep : (from action : ℕ) → Type 0
IsAnyStep from action = ⊤
