-- Projections of a state space: pattern databases (J. C. Culberson and J. Schaeffer, "Pattern
-- databases", Computational Intelligence 14, 1998; S. Edelkamp, "Planning with pattern databases",
-- 2001).
use Rattle.std.specs.Prelude.{ℕ, ◌+◌, ◌≤◌, IsTrue, ⊤}
use Rattle.pb_model.specs.declared.row.Estimate.{Estimate}
use Rattle.pb_model.specs.declared.row.Estimate.TheVariants.{Cost, Dead}
use Rattle.pb_model.specs.Space.{Space, Steps}

-- Each state has an image, each step has its image at the same cost, and the images of goals are
-- goals.
pub record IsProjection (space abstraction : Space) (image : ℕ → ℕ) : Type 0 where
  pub states : (state : ℕ) → IsTrue (space.is_state state)
      → IsTrue (abstraction.is_state (image state))
  pub steps : (from action to cost : ℕ) → Steps space from action to cost
      → (by : ℕ) × Steps abstraction (image from) by (image to) cost
  pub goals : (state : ℕ) → IsTrue (space.is_state state) → IsTrue (space.is_goal state)
      → IsTrue (abstraction.is_goal (image state))

-- the one estimate is at most the cost of a step and the other estimate
abbrev pub IsWithinStep : (cost : ℕ) → (before after : Estimate) → Type 0
IsWithinStep cost before Dead = ⊤
IsWithinStep cost Dead (Cost after) = ⊥
IsWithinStep cost (Cost before) (Cost after) = before ≤ cost + after

-- No step lowers the estimate by more than the step costs (Hart, Nilsson, Raphael 1968).
abbrev pub IsConsistent : Space → (estimate : ℕ → Estimate) → Type 0
IsConsistent space estimate =
    (from action to cost : ℕ) → Steps space from action to cost
    → IsWithinStep cost (estimate from) (estimate to)
