-- What the contract of the trace cites.
use Rattle.std.specs.Prelude.{◌≡◌, ℕ, ◌+◌, ◌<◌, ◌≤◌, ◌⊎◌, IsTrue, Option, None, Some, List, reverse}
use Rattle.pb_model.specs.declared.row.Row.{Row}
use Rattle.pb_model.specs.Space.{Space, Steps}
use Rattle.pb_model.specs.Guide.{Guide}
use Rattle.pb_model.specs.Store.{Part, Rows, Store}
use Rattle.pb_model.specs.Trace.{TracesBack}
use Rattle.pb_cert.specs.declared.goal.Goal.{Goal}

-- some goal has a row
abbrev pub HasGoal : Space → Rows → Type 0
HasGoal space rows =
    (home : ℕ) × (goal : ℕ) × (row : Row) × (rows home goal ≡ Some row)
    × IsTrue (space.is_goal goal)

-- the one goal comes no later than the other state: its g is less, or it is the same and the goal
-- is no greater
abbrev pub IsNoLater : (goal_g goal g state : ℕ) → Type 0
IsNoLater goal_g goal g state = (goal_g < g) ⊎ ((goal_g ≡ g) × (goal ≤ state))

-- there is a goal, and it comes no later
abbrev pub HasNoLater : Option Goal → (g state : ℕ) → Type 0
HasNoLater None g state = ⊥
HasNoLater (Some goal) g state = IsNoLater goal.g goal.state g state

-- the goal comes no later than any goal that has a row in this part
abbrev pub IsFirstIn : Space → Part → Option Goal → Type 0
IsFirstIn space part first =
    (state : ℕ) (row : Row) → part state ≡ Some row → IsTrue (space.is_goal state)
    → HasNoLater first row.g state

-- there is a goal, and it has its row in this part
abbrev pub HasRowIn : Space → Part → Option Goal → Type 0
HasRowIn space part None = ⊥
HasRowIn space part (Some goal) =
    (row : Row) × (part goal.state ≡ Some row) × (row.g ≡ goal.g)
    × IsTrue (space.is_goal goal.state)

-- the state is a goal whose row has this g; of all rows of goals its row is the first, by g, and at
-- one g by state
pub record IsFirstGoal (space : Space) (rows : Rows) (goal g : ℕ) : Type 0 where
  pub home : ℕ
  pub row : Row
  pub found : rows home goal ≡ Some row
  pub costs : row.g ≡ g
  pub is_goal : IsTrue (space.is_goal goal)
  pub first : (home other : ℕ) (other_row : Row) → rows home other ≡ Some other_row
      → IsTrue (space.is_goal other) → IsNoLater g goal other_row.g other

-- the actions are those of the rows on the way from the start to the first goal
pub record IsTrace (space : Space) (guide : Guide) (store : Store) (actions : List ℕ) : Type 0 where
  pub goal : ℕ
  pub g : ℕ
  pub first : IsFirstGoal space store.rows goal g
  pub back : TracesBack space guide store goal (reverse actions)

-- the g of a row
abbrev pub g_at : Option Row → ℕ
g_at None = 0
g_at (Some row) = row.g

-- The last step on the way to a state: its row has this action, and this parent, whose row is
-- cheaper by the step's cost or more.
pub record IsLastStep (space : Space) (part : Part) (state action parent cost : ℕ) : Type 0 where
  pub row : Row
  pub found : part state ≡ Some row
  pub named : row.parent ≡ Some parent
  pub taken : row.action ≡ action
  pub step : Steps space parent action state cost
  pub before : Row
  pub before_found : part parent ≡ Some before
  pub cheaper : before.g + cost ≤ row.g
  pub positive : 1 ≤ cost
