-- What is true of the rows of a whole store at every moment of a search. Two other definitions say
-- who shows the incumbent (`IsShown`) and how great a g may be (`CostsAtMost`).
use Rattle.std.specs.Prelude.{◌≡◌, ℕ, ◌+◌, ◌≤◌, IsTrue, IsFalse, Some, ◌⊎◌}
use Rattle.pb_model.specs.declared.row.Status.TheVariants.{Closed, Cut}
use Rattle.pb_model.specs.declared.row.Row.{Row}
use Rattle.pb_model.specs.Space.{Space, Steps}
use Rattle.pb_model.specs.Weight.{IsWeight}
use Rattle.pb_model.specs.Guide.{Guide}
use Rattle.pb_model.specs.Store.{Store, row_at, HasRowWithin, MayBeCut}

-- the row's action leads from its parent to its state; the parent has a row, and g is no less than
-- by this step
pub record HasParent (space : Space) (guide : Guide) (store : Store) (state : ℕ) (row : Row)
    : Type 0 where
  pub parent : ℕ
  pub parent_row : Row
  pub cost : ℕ
  pub named : row.parent ≡ Some parent
  pub found : row_at guide store parent ≡ Some parent_row
  pub step : Steps space parent row.action state cost
  pub cheaper : parent_row.g + cost ≤ row.g

pub record IsSound (space : Space) (guide : Guide) (store : Store) : Type 0 where
  -- a state's row is at the state's home and nowhere else, and has the state's estimate
  pub place : (home state : ℕ) (row : Row) → store.rows home state ≡ Some row
      → (home ≡ guide.home state) × IsTrue (space.is_state state)
      × (row.estimate ≡ guide.estimate state)
  pub start : HasRowWithin guide store space.start 0
  pub parent : (state : ℕ) (row : Row) → row_at guide store state ≡ Some row
      → (state ≡ space.start) ⊎ HasParent space guide store state row
  -- the successors of a Closed row have rows that are no dearer than by a step from it
  pub closed : (state : ℕ) (row : Row) → row_at guide store state ≡ Some row → row.status ≡ Closed
      → (action to cost : ℕ) → Steps space state action to cost
      → HasRowWithin guide store to (row.g + cost)
  pub no_goal : (state : ℕ) (row : Row) → row_at guide store state ≡ Some row → row.status ≡ Closed
      → IsFalse (space.is_goal state)
  pub cut : (state : ℕ) (row : Row) → row_at guide store state ≡ Some row → row.status ≡ Cut
      → MayBeCut store.weight store.incumbent row.g row.estimate
  pub weight : IsWeight store.weight
